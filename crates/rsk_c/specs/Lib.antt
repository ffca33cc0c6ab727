pub mod Rewrite
pub mod Answered
pub mod List
