pub mod Computed
pub mod Halves
pub mod Codes
pub mod Decoding
pub mod Laws
pub mod InvertedBits
pub mod Commas
