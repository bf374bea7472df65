pub mod Growing
pub mod Overflow
pub mod Collecting
pub mod Steps
pub mod Nodes
pub mod Parts
pub mod Next
