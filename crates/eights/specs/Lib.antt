pub mod Low
