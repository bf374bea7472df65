pub mod Watched
pub mod Lines
pub mod Only
