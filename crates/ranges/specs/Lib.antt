-- definitions
pub mod Ranges
pub mod Fields
pub mod Retired
-- laws that the proofs cite
pub mod Cells
pub mod Widths
pub mod Rules
