pub mod Job
pub mod Prepared
pub mod Refusal
