pub mod Digits
pub mod Exact
pub mod Named
pub mod Pairs
pub mod Read
