pub mod Apart
pub mod Placed
