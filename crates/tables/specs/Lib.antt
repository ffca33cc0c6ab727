pub mod Edges
pub mod Times
pub mod Lent
pub mod Most
