pub mod Fed
pub mod Gathered
pub mod Made
pub mod Spelled
