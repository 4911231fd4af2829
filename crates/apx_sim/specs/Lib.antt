pub mod Hand
pub mod Bench
pub mod Headline
