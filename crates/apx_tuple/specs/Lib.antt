pub mod Key
pub mod Kind
pub mod Progress
pub mod Size
pub mod State
pub mod Tuple
