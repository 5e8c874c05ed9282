pub mod Halfway
pub mod Someone
