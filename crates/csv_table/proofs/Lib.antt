pub mod Records
pub mod Decimals
pub mod Fields
pub mod RoundTrip
pub mod Ranges
pub mod Loop
