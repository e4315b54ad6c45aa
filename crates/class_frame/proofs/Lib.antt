pub mod Bytes
pub mod ClassFrames
pub mod Folds
pub mod GroupingLaws
mod GroupingValues
pub mod Harder
pub mod Headers
pub mod Joining
pub mod Ranges
pub mod Small
pub mod Standing
pub mod Tables
pub mod Used
