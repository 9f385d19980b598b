pub mod Flat
pub mod Seen
pub mod Turns
pub mod Uses
pub mod Passed
pub mod Accepted
