pub mod Above
pub mod Bits
pub mod KeptAsBits
pub mod Past
