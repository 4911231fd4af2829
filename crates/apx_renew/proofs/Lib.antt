pub mod Owning
pub mod Splitting
pub mod Group
