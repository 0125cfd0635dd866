-- words of the laws
pub mod Facts
-- laws
pub mod ReplayLaws
