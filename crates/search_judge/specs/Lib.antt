pub mod Findings
pub mod Judges
pub mod Laws
pub mod Stuck
