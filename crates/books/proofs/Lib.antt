pub mod Held
pub mod Entering
