pub mod Rows
pub mod Sends
pub mod Sources
pub mod Root
pub mod Outcomes
