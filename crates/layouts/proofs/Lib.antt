pub mod Exactly
pub mod Demand2
pub mod Trips
pub mod Apart
pub mod Samples
pub mod AsciiCases
pub mod Promise
