pub mod Cutting
pub mod Feeding
pub mod Placing
pub mod Reading
pub mod Sizing
pub mod Stepping
pub mod Wholly
pub mod Working
