-- definitions
pub mod Replay
pub mod Longest
-- laws that the proofs cite
pub mod Digits
pub mod Start
