pub mod BatchLaws
pub mod Chunks
pub mod Gatherings
pub mod Marks
pub mod Ones
pub mod ShardLaws
pub mod ShardSteps
