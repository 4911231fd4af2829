mod Downstream
mod Planning
pub mod Epochs
pub mod Judging
pub mod Windows
