pub mod Choosing
pub mod Forces
pub mod Grouping
pub mod Parting
pub mod Spelling
pub mod Working
