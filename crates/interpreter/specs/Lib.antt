pub mod Sizes
pub mod Stops
pub mod Answering
