-- definitions
pub mod Digits
-- laws
pub mod DigitLaws
