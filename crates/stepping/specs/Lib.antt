pub mod Listed
pub mod Adding
pub mod Wrapping
pub mod Stepping
pub mod Holding
