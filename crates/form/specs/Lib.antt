pub mod Outcome
pub mod Places
pub mod Offsets
pub mod Adding
pub mod Ranges
pub mod Hold
