pub mod ClassItems
pub mod LaidOut
