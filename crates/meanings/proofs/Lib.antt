pub mod Rest
pub mod Later
