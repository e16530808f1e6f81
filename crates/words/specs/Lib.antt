pub mod Words
pub mod Fits
