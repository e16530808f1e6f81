pub mod ByHand
pub mod Forms
pub mod Tables
pub mod Carried
pub mod Rooms
pub mod Good
