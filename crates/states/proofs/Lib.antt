pub mod Ends
pub mod Sizes
pub mod Equal
