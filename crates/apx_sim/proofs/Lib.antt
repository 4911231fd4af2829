pub mod Opened
pub mod Benches
pub mod Histories
pub mod Heads
pub mod Checkpoints
pub mod Told
pub mod Stored
