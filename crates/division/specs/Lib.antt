-- the statements
pub mod Division
pub mod Exposure
-- laws that the proofs cite
pub mod Digits
pub mod ExposureLaws
