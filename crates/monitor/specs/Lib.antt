pub mod Faults
pub mod Uses
pub mod Promise
pub mod Text
