pub mod SignatureSizes
pub mod Signing
