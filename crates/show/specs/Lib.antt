pub mod Showing
pub mod Fits
