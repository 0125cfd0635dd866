-- the statement
pub mod ExposureCases
-- proofs
pub mod ExposureCaseLaws
