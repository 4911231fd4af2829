pub mod Logs
pub mod Views
pub mod Keeps
pub mod Steps
pub mod Seats
pub mod Lent
