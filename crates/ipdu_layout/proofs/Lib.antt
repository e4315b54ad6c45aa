pub mod Places
pub mod MarkLaws
pub mod StartLaws
