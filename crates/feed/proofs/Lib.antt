pub mod Laws
pub mod Pieces
pub mod Promise
pub mod Through
