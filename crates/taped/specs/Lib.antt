pub mod ClerksWall
pub mod Said
pub mod DayW
