pub mod Outcome
pub mod Number
pub mod Taking
pub mod Laws
