pub mod Outcome
pub mod Layout
pub mod Writing
