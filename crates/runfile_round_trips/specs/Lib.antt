-- the file that document 01 prints
pub mod Example
-- laws
pub mod RoundTrip
