-- definitions
pub mod PassWords
