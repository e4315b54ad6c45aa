pub mod Queueing
pub mod Passing
pub mod Frame
pub mod Order
pub mod Checked
pub mod Chain
pub mod Refuted
