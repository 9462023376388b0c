pub mod Choice
pub mod Faults
pub mod Moments
pub mod Room
pub mod Store
