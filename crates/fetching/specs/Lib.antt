-- definitions
pub mod ByTable
-- proofs
pub mod TableLaws
