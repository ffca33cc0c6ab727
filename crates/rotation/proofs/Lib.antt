pub mod FirstPlans
pub mod Rotates
