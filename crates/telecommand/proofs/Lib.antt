pub mod Readings
pub mod Octets
pub mod RoundTrip
pub mod Parts
pub mod Lengths
