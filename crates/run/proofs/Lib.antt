pub mod Laws
pub mod Placing
pub mod Midway
pub mod Visiting
pub mod Rounds
pub mod Entry
