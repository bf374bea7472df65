pub mod Pieces
pub mod Refusals
pub mod Lines
pub mod Logs
pub mod Text
