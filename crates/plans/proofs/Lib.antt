pub mod Entries
pub mod Steps
