pub mod Carried
pub mod Given
pub mod Laws
