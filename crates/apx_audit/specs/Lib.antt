pub mod Text
pub mod Reading
pub mod Lent
pub mod Verdict
pub mod Laws
