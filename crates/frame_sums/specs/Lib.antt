-- definitions
pub mod Frames
pub mod FrameCases
-- laws that the proofs of the law cite
pub mod ProductBounds
