mod Opening
mod Ending
mod Holding
pub mod Stopping
mod Choosing
mod Doing
mod Seating
mod Gathering
