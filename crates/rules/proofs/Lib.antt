pub mod Promise
pub mod Events
pub mod ByHand
