pub mod Asked
pub mod Evidences
pub mod Members
pub mod Named
pub mod Places
pub mod Shows
