pub mod Views
pub mod Orders
pub mod Lawfully
pub mod Entered
