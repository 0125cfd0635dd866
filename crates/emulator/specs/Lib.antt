-- definitions
pub mod Outcomes
pub mod Totals
-- proofs
pub mod RunLaws
