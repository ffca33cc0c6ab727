pub mod Words
pub mod Table
pub mod Noted
pub mod Size
