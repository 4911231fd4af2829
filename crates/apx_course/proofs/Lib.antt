pub mod Statuses
pub mod Journals
