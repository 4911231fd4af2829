pub mod Owing
pub mod Driving
