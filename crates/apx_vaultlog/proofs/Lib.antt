pub mod Bodies
pub mod Held
pub mod Lengths
pub mod Pushed
pub mod Reading
pub mod Undone
pub mod Upgraded
