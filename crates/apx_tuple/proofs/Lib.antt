pub mod Ascending
pub mod Fronts
pub mod Orders
pub mod Sizes
