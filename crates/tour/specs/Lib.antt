pub mod Parts
pub mod Worked
