pub mod Dotted
pub mod Names
pub mod Lines
pub mod ListLines
