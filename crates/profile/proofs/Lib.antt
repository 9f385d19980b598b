pub mod Oriented
