-- definitions
pub mod Encode
pub mod Within
-- laws
pub mod Bits
pub mod Spelled
pub mod Rows
pub mod Cleared
