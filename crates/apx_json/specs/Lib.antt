pub mod Texts
pub mod Checks
pub mod FileName
pub mod Integers
pub mod Shape
pub mod Reading
