pub mod Reading
pub mod Numbers
pub mod Hex
pub mod Events
pub mod Outcomes
pub mod Padded
pub mod Lines
