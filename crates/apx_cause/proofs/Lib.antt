pub mod Causes
pub mod Going
