-- definitions
pub mod ByTable
-- proofs
pub mod TableLaws
pub mod Ranges
