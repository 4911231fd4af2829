pub mod Calls
pub mod Changes
pub mod Disk
pub mod Entries
pub mod Histories
pub mod InMemory
pub mod Log
pub mod Opening
