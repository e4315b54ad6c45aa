pub mod SignalLaws
pub mod NetworkLaws
pub mod NetworkBack
