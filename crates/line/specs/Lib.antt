pub mod Waiting
pub mod Writing
pub mod Cyclic
pub mod Records
pub mod Recordings
pub mod Opening
pub mod Rings
