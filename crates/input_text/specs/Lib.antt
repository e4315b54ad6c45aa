pub mod SignalsText
pub mod NetworkText
