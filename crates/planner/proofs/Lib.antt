pub mod Written
pub mod Room
pub mod Listed
pub mod Buffers
pub mod Verdicts
pub mod Queried
