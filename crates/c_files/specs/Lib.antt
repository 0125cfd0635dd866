-- laws
pub mod CallLaws
