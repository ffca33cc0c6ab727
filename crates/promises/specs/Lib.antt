pub mod Demand1
pub mod Once
pub mod Cycles
pub mod Demand2
pub mod Demand3
pub mod Small
