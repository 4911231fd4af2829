pub mod Hearing
pub mod Lookups
pub mod Saves
pub mod Spelled
