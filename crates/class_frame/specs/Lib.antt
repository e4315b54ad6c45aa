pub mod Classes
pub mod Frame
pub mod Grouping
pub mod Laws
pub mod Legal
pub mod Sums
