pub mod Audits
pub mod First
pub mod Hearing
pub mod Jobs
pub mod Laws
pub mod Refusals
pub mod Stops
