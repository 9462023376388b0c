pub mod Turning
pub mod Faults
pub mod Opening
pub mod Running
pub mod Cutting
