pub mod Below
pub mod Grouping
pub mod Inputs
pub mod Passing
pub mod Pieces
pub mod Refusing
pub mod Values
