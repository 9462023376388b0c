pub mod Ordered
pub mod Granted
pub mod GrantText
pub mod Kept
pub mod Keys
pub mod Lines
