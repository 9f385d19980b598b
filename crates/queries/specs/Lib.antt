pub mod Refusals
pub mod Trees
pub mod Flat
pub mod Questions
pub mod Sound
