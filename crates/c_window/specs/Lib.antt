-- definitions
pub mod Shown
-- laws
pub mod CallLaws
pub mod ShownLaws
