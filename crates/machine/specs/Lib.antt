-- definitions
pub mod Table
pub mod Cells
pub mod Reset
pub mod Range
pub mod Stack
-- laws
pub mod Facts
pub mod CellLaws
pub mod RangeLaws
