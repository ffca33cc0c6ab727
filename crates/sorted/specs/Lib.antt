pub mod Order
pub mod Ordered
