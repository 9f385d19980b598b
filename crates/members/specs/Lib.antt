pub mod Compose
pub mod Members
pub mod Laws
pub mod Table
