pub mod Regions
pub mod Finding
pub mod Slices
pub mod Windows
pub mod Given
pub mod Lent
-- words of the laws
pub mod RegionFacts
pub mod SliceFacts
pub mod WindowFacts
pub mod DataPage
-- laws
pub mod RegionLaws
pub mod SliceLaws
pub mod WindowLaws
