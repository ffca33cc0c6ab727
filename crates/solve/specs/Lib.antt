pub mod Outcome
pub mod Solved
