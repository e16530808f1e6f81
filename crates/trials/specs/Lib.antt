pub mod Days
pub mod Sheets
pub mod Premises
