pub mod ByHand
pub mod Said
pub mod Fitting
pub mod Written
pub mod Promise
