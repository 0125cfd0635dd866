-- the stacks
pub mod Cases
pub mod EdgeCase
-- laws
pub mod CaseLaws
pub mod LabelLaws
pub mod EdgeCaseLaws
-- laws that their proofs cite
pub mod SizedLaws
