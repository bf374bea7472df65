pub mod Names
pub mod Options
pub mod Text
pub mod Message
