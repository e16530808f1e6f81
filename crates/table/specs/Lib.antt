pub mod Table
pub mod Working
