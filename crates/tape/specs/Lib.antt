pub mod Entries
pub mod Playing
