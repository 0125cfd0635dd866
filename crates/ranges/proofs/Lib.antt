-- proofs
pub mod FieldLaws
pub mod RetiredLaws
pub mod EightLaws
pub mod Steps
pub mod Runs
pub mod Operands
