pub mod Touches
pub mod EditionStays
pub mod OtherEdition
