pub mod Numbers
pub mod Loop
pub mod Order
pub mod Laws
pub mod Writing
