pub mod Outcome
pub mod Found
