pub mod Pricing
pub mod Bytes
pub mod Grades
