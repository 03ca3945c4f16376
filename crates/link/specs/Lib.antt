pub mod Readings
pub mod Hearing
pub mod Receiving
pub mod Sending
pub mod Accepting
pub mod Opening
