pub mod Cause
pub mod Steps
