pub mod Messages
pub mod Steps
pub mod Clerk
pub mod Arrivals
pub mod Claims
pub mod States
