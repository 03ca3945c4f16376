pub mod Words
pub mod Packed
