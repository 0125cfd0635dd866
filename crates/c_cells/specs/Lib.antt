-- definitions
pub mod Cells
pub mod Checks
-- laws
pub mod CheckLaws
pub mod ReadLaws
pub mod StoreLaws
