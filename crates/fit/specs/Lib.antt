pub mod Outcome
pub mod Tables
pub mod Retimed
pub mod Fitting
pub mod Retimings
pub mod Laws
