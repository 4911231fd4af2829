pub mod Application
pub mod Example
