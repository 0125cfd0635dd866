pub mod RowLaws
pub mod RefusalLaws
pub mod TableLaws
pub mod StoreLaws
pub mod Stages
pub mod StepLaws
pub mod TallyLaws
pub mod SummaryLaws
