pub mod Held
pub mod Spools
