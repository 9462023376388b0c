pub mod Kinds
pub mod Digits
pub mod OneTime
pub mod Tree
pub mod Keys
pub mod Signatures
pub mod Parts
