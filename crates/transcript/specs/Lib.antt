pub mod History
pub mod Answering
pub mod Reaching
pub mod Laws
