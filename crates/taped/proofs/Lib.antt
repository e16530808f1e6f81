pub mod TapeDay
pub mod WallSaid
pub mod Printed
pub mod Exists
pub mod DayW
pub mod WholeW
