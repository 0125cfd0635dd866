pub mod Sieve
pub mod Kinds
pub mod Groups
pub mod Table
