pub mod Names
pub mod Keys
pub mod State
pub mod Rules
pub mod Stored
