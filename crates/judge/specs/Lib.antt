pub mod Outcome
pub mod Judgement
