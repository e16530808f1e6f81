pub mod Laws
pub mod Promise
