-- definitions
pub mod Lines
