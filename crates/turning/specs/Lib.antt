pub mod Turned
pub mod TurnedLegal
pub mod Rotation
pub mod Lending
pub mod Worked
pub mod FirstLaws
pub mod SameRule
pub mod RotatedLaws
