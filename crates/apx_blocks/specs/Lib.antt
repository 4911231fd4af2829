pub mod Came
pub mod Carried
pub mod Large
pub mod Running
pub mod Worked
