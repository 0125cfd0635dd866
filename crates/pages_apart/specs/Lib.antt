-- definitions
pub mod Having
pub mod Shared
-- proofs
pub mod Apart
pub mod SharedLaws
