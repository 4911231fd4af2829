pub mod Caused
pub mod Whole
pub mod Stored
pub mod Plain
pub mod Crashes
