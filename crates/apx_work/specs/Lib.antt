pub mod Own
pub mod Claims
pub mod Turns
pub mod Hands
pub mod Workers
