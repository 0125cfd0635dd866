-- definitions
pub mod Calls
-- laws
pub mod CallLaws
pub mod RefusalLaws
