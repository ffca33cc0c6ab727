pub mod Refused
pub mod Outcome
pub mod Handed
pub mod Tally
