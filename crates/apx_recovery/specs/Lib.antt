pub mod Checkpoints
pub mod Sets
