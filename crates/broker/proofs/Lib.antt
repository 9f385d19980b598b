pub mod Members
pub mod Replay
pub mod Standings
pub mod Accepted
pub mod Calls
pub mod RunSteps
