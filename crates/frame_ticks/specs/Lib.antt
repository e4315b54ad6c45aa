pub mod Bits
pub mod Laws
pub mod Line
pub mod Stuffing
pub mod Ticks
pub mod Worst
