pub mod Turns
pub mod Calls
