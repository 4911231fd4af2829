pub mod Digests
pub mod Folding
pub mod Folds
pub mod Putting
pub mod Ranked
pub mod Telling
