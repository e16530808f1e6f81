pub mod Linked
pub mod Runs
