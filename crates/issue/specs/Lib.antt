pub mod Tables
pub mod Units
pub mod Late
pub mod Issue
