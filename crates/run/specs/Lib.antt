pub mod Outcome
pub mod Order
pub mod Repeats
pub mod Repeat
pub mod Going
pub mod Running
