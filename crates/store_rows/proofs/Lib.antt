mod Preparing
mod InStep
