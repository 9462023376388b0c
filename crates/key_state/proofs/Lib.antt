pub mod Rows
pub mod Ascents
pub mod Joins
pub mod Events
