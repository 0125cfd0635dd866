pub mod EncodeLaws
pub mod OperandLaws
