pub mod Histories
pub mod Orders
pub mod Checkpoints
pub mod Contents
pub mod Laws
