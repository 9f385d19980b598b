pub mod Questions
pub mod Refusals
pub mod Layout
pub mod Charts
pub mod Lookup
pub mod Sound
pub mod Build
