pub mod Outcome
pub mod Text
pub mod Lines
pub mod Shown
