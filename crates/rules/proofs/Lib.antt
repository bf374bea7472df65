pub mod Tables
pub mod Reading
mod Back
mod Only
mod Law
mod Sizes
pub mod Equal
