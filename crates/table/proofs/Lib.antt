pub mod ByHand
pub mod Laws
pub mod Tables
pub mod Promise
