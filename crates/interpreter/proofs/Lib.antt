pub mod Doing
pub mod Sizing
