pub mod Records
pub mod Encoding
