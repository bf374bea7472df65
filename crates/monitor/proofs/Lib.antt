pub mod Extended
pub mod Kept
