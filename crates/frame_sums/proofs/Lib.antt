-- the law, and the computed cases
pub mod FrameLaws
pub mod CaseLaws
-- laws that their proofs cite
pub mod PassSums
