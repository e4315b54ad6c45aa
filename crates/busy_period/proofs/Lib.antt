pub mod Instances
pub mod Sums
pub mod Stages
pub mod Lines
pub mod Growth
pub mod Least
pub mod Checks
