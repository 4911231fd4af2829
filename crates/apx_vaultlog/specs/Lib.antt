pub mod Changes
pub mod Upgrading
