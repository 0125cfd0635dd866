-- definitions
pub mod Stores
pub mod Plan
pub mod Rows
pub mod OperandFound
pub mod Refusals
pub mod Pass
pub mod World
pub mod Table
pub mod Step
pub mod Tally
pub mod Summary
