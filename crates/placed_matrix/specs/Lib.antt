pub mod Frames
pub mod Items
pub mod OnePlace
pub mod Placed
pub mod Tables
