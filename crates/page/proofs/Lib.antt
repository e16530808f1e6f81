pub mod ByHand
pub mod Laws
pub mod WallLongest
pub mod Promise
pub mod Fitting
