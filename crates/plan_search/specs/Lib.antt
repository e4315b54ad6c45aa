pub mod Alone
pub mod Begin
pub mod Ending
pub mod Laws
pub mod Lines
pub mod Plan
pub mod Searches
pub mod Takes
