pub mod Ends
pub mod Keeping
pub mod Plain
pub mod Taking
pub mod Reporting
pub mod Walking
