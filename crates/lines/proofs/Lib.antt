pub mod Meanings
pub mod PackedBits
pub mod PackedLines
pub mod Characters
pub mod WordLines
