pub mod Text
pub mod Refusals
pub mod Excerpts
