-- definitions
pub mod Files
-- words of the laws
pub mod Facts
-- laws
pub mod WordLaws
pub mod FileLaws
