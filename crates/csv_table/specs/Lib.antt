pub mod Columns
pub mod Decimal
pub mod Gives
pub mod Inside
pub mod Rows
pub mod Writing
