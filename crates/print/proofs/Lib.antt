pub mod Padding
pub mod Laws
pub mod Longest
pub mod Samples
pub mod Promise
pub mod Whole
