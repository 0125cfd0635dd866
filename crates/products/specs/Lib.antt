-- definitions
pub mod Scaling
-- proofs
pub mod ProductLaws
