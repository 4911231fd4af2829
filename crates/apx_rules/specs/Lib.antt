pub mod Parts
pub mod Ranks
pub mod Rule
pub mod Step
