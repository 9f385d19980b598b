pub mod Composed
pub mod Lawful
pub mod Table
pub mod Kept
pub mod AnyBook
pub mod Books
