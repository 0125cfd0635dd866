-- definitions
pub mod SetUpAnswer
pub mod SetUp
-- words of the laws
pub mod SetUpFacts
-- laws
pub mod MemoryLaws
pub mod SetUpLaws
