pub mod Flows
pub mod Members
pub mod Short
pub mod Steps
