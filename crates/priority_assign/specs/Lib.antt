pub mod Level
pub mod Once
pub mod Times
pub mod Lowest
pub mod Checked
