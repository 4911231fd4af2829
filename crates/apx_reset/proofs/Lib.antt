pub mod Planned
pub mod Recovered
pub mod Killing
pub mod Saving
pub mod Splitting
pub mod Stopping
