pub mod Signed
pub mod Promise
