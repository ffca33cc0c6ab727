pub mod Laws
pub mod Whole
