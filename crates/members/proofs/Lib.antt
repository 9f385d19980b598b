pub mod Views
pub mod Counts
pub mod Rank
pub mod Exact
pub mod Growing
pub mod Turns
