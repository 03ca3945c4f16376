pub mod Shown
pub mod Queues
pub mod Collecting
