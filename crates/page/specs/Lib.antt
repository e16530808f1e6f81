pub mod Page
pub mod Printable
