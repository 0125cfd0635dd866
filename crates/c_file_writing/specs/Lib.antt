-- definitions
pub mod WriteCalls
-- laws
pub mod CallLaws
