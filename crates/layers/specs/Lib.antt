pub mod Refusals
pub mod Questions
pub mod Readings
pub mod Lawful
