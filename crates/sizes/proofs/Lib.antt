pub mod Sizes
pub mod Promise
