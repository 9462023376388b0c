pub mod Dependencies
pub mod Deciding
