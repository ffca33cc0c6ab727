pub mod Laws
pub mod Bare
pub mod Firsts
pub mod Rotations
