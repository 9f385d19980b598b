pub mod Doubling
pub mod Loose
pub mod LooseLaws
