pub mod Loop
pub mod Headers
pub mod Taken
pub mod Again
pub mod Standing
pub mod Refused
