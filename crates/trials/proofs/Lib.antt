pub mod PDays
pub mod PSheets
pub mod Premises
