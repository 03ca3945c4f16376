pub mod QueueLaws
pub mod Keeping
pub mod Collectings
