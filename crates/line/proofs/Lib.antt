pub mod BitLists
pub mod Cyclics
pub mod Rings
pub mod Recordings
pub mod Faults
