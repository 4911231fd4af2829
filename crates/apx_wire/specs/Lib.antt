pub mod Spelling
pub mod Judging
pub mod Order
pub mod Stream
