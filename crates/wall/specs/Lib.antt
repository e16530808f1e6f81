pub mod Status
pub mod Reads
