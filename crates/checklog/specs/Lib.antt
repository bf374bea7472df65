pub mod Survey
pub mod Report
