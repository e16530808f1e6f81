pub mod Texts
pub mod Put
pub mod Fits
