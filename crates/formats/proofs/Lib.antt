pub mod Good
pub mod Lengths
pub mod Promise
