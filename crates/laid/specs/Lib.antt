pub mod Laid
pub mod Rows
pub mod Laws
