pub mod Fronts
pub mod Sound
pub mod Places
pub mod Every
pub mod Extended
pub mod Lines
pub mod Meaning
