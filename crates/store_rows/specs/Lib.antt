pub mod Plain
pub mod InStep
