pub mod Faults
pub mod Packet
pub mod Commands
pub mod Links
pub mod Shown
pub mod Frames
