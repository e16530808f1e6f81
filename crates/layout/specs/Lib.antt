pub mod Values
pub mod Forms
pub mod Tables
pub mod Carrying
