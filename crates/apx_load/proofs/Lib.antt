pub mod Auditing
pub mod Heard
mod Loading
pub mod Readings
mod Scripting
pub mod Stopping
pub mod Unique
pub mod Writing
