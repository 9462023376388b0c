pub mod Orders
pub mod Unsigned
pub mod Written
