pub mod Weight
pub mod Tables
pub mod Reached
pub mod Others
pub mod Marking
pub mod Ways
