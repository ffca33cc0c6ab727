pub mod Outcome
pub mod Looping
pub mod Ascending
pub mod Settled
pub mod Answer
pub mod Only
