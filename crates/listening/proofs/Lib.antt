pub mod Texts
pub mod Tellings
pub mod Turns
