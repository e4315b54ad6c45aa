pub mod BitLaws
pub mod BoundLaws
pub mod FrameLaws
pub mod LeastLaws
pub mod RelationLaws
pub mod Sending
pub mod StuffingLaws
pub mod WorstLaws
