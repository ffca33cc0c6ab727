pub mod Outcome
pub mod Tables
pub mod Reading
