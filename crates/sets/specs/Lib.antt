pub mod Bits
pub mod Sets
pub mod Laws
pub mod Elements
