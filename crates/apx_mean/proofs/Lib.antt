pub mod Coming
pub mod Gathering
pub mod Keeping
pub mod Passed
pub mod Turn
