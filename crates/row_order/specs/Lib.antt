-- the statements
pub mod RowOrder
-- proofs
pub mod RowLaws
