pub mod Laws
pub mod Issuing
