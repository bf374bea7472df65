pub mod Types
pub mod Meanings
pub mod Derivation
pub mod Ranges
pub mod Sets
