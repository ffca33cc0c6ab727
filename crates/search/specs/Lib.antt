pub mod Search
pub mod Worked
pub mod Halved
pub mod Met
pub mod Only
pub mod Good
pub mod Laws
pub mod Searching
