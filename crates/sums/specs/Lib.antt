pub mod SumLaws
pub mod PageSumLaws
