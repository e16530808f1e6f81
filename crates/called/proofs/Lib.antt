pub mod Given
pub mod Refused
pub mod Unknown
pub mod Written
