pub mod Adding
pub mod Images
pub mod Pushing
pub mod Reading
pub mod Repair
pub mod Trimming
