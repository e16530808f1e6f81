pub mod Good
pub mod Moves
pub mod Lengths
pub mod Promise
