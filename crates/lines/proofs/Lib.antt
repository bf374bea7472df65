pub mod Back
pub mod Exact
pub mod Known
pub mod Numbered
pub mod Only
pub mod Spelling
pub mod Cutting
