pub mod CheckLoops
pub mod StoreLoops
