pub mod Outcome
pub mod Parts
pub mod Busy
pub mod Least
pub mod Bounds
pub mod Tables
pub mod Floor
pub mod Named
