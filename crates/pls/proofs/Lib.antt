pub mod ByHand
pub mod Good
pub mod Laws
pub mod Promise
