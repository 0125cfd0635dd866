-- proofs
pub mod DivisionLaws
pub mod RepeatLaws
