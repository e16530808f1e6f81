pub mod Low
pub mod Promise
