pub mod Events
pub mod Runs
pub mod History
pub mod Promises
pub mod Logged
pub mod Tried
