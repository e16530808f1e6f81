pub mod Shown
pub mod Laid
pub mod Promise
