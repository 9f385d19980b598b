pub mod Profiles
pub mod Joins
pub mod Laws
