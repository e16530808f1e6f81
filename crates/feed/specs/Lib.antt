pub mod Feeding
pub mod Reading
