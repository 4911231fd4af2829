pub mod Core
pub mod Claim
pub mod Ports
pub mod Crashes
