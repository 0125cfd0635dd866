-- definitions
pub mod Stack
-- laws
pub mod Eight
pub mod StackLaws
