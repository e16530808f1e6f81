pub mod ByHand
pub mod Demand1
pub mod Steps
pub mod Promise
