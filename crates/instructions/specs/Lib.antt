pub mod Encoding
pub mod Pages
pub mod Decode
pub mod Every
pub mod Places
pub mod Past
