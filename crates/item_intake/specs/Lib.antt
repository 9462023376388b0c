pub mod Causes
pub mod Inflows
pub mod Intakes
pub mod Reading
pub mod Turns
pub mod HeldItems
pub mod ReadItem
