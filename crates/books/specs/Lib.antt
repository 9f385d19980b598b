pub mod Slots
pub mod ExactLaws
pub mod Sealed
