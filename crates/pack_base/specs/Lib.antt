pub mod Counts
pub mod Outside
pub mod Failures
pub mod Held
pub mod MemFolder
pub mod MemSink
pub mod SteadyFolder
