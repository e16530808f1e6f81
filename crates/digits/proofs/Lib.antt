pub mod ByHand
pub mod Laws
