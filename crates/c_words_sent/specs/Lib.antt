-- definitions
pub mod Sent
-- laws
pub mod CallLaws
pub mod SentLaws
