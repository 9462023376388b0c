pub mod Loading
pub mod Endings
pub mod Loops
pub mod Cuts
