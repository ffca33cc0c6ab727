pub mod Laws
pub mod Units
pub mod Waits
pub mod Weighed
pub mod Steps
