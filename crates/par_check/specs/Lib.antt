pub mod Aims
pub mod Gathered
pub mod Laws
pub mod ShardWalks
pub mod Shards
