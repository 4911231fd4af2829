pub mod Table
pub mod Opened
