pub mod ByHand
pub mod Sound
pub mod Promise
