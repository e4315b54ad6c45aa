pub mod Moved
pub mod Levels
pub mod SentOnce
pub mod Filling
pub mod Steps
pub mod Checks
pub mod OneOrder
