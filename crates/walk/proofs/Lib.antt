pub mod ByHand
pub mod Laws
pub mod Meaning
pub mod Promise
