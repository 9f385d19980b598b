pub mod Gather
pub mod Rounds
pub mod Counts
pub mod Connected
pub mod Joined
