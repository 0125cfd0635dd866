-- definitions
pub mod Results
-- laws
pub mod ResultLaws
