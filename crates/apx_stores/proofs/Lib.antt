pub mod Wholes
pub mod Stopping
pub mod Crashing
