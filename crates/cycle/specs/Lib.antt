pub mod Fewest
pub mod Row
pub mod Found
pub mod Walked
pub mod Among
