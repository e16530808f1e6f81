pub mod ByHand
pub mod Signed
pub mod Again
pub mod Told
pub mod Promise
