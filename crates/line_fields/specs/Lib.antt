-- definitions
pub mod Placing
-- words of the laws
pub mod Facts
-- laws
pub mod PlacingLaws
pub mod Writing
