pub mod Numerals
pub mod Fields
pub mod Chunks
pub mod Brought
pub mod Digits
pub mod Sums
pub mod Apart
pub mod More
