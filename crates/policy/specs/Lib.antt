pub mod Refusals
pub mod Same
pub mod Reading
pub mod Books
pub mod Lawful
pub mod Viewed
