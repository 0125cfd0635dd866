pub mod CellLaws
pub mod BackLaws
pub mod RangeLaws
