pub mod Heads
pub mod Plays
pub mod Pieces
pub mod Tapes
pub mod Over
pub mod Lengths
pub mod Promise
