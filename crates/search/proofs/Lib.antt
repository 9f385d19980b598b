pub mod Receivers
pub mod Offers
pub mod RowSteps
pub mod Filling
pub mod Empty
pub mod Outcomes
