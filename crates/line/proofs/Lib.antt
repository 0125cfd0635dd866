-- laws
pub mod LineLaws
