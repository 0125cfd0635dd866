-- the statement
pub mod Stacking
pub mod Label
-- laws
pub mod Passing
pub mod Passes
pub mod Demand
