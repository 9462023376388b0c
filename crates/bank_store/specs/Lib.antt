pub mod Layout
pub mod Formats
pub mod Faults
