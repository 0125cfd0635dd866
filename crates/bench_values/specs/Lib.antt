pub mod Cases
pub mod Bench
