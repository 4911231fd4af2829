pub mod Owned
pub mod Renewed
