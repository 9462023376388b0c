pub mod Orders
pub mod Packed
pub mod Sets
