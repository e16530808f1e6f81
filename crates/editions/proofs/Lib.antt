pub mod ByHand
pub mod Promise
