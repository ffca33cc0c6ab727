pub mod Busy
pub mod Crowded
pub mod Lowest
