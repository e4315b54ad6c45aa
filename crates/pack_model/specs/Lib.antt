pub mod Gives
pub mod Items
pub mod Name
pub mod Network
pub mod Problem
pub mod Signal
