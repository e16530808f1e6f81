pub mod Spelt
pub mod Laid
pub mod Promise
