-- proofs
pub mod LongestLaws
