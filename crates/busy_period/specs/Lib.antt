pub mod Timed
pub mod Stage
pub mod Demand
pub mod Harder
pub mod Least
pub mod Busy
pub mod Checked
pub mod Quick
