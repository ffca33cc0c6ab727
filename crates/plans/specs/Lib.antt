pub mod Outcome
pub mod Pairs
pub mod Tabled
pub mod Kept
pub mod Scheduling
