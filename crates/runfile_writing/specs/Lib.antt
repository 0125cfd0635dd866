-- definitions
pub mod Writing
-- laws
pub mod WritingLaws
