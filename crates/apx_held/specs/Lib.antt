pub mod Holding
pub mod Partition
pub mod Fits
pub mod Lent
pub mod Begun
pub mod Partly
