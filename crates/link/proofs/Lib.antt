pub mod Fits
pub mod Hearings
pub mod Puttings
