-- definitions, and the one lemma
pub mod One
-- every exported function
pub mod Words
pub mod Machines
pub mod Decoding
pub mod Pages
pub mod Steps
pub mod Files
pub mod Library
pub mod Printing
