pub mod Module
pub mod Communities
pub mod Rules
pub mod Conditions
pub mod Deciding
