pub mod Class
pub mod Plan
