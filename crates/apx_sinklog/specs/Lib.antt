pub mod Logged
pub mod Windows
