pub mod Mapped
pub mod Once
pub mod Sorting
