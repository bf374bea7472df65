pub mod Hex
pub mod Layers
pub mod Words
pub mod Said
pub mod Read
pub mod Forms
pub mod Commands
