pub mod Codes
pub mod Images
