pub mod Into
pub mod Combined
pub mod Tables
pub mod Given
