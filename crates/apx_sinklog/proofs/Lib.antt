pub mod Bodies
pub mod Pushed
pub mod Reading
