pub mod AllWhere
pub mod AnchorLaws
pub mod CertificateLaws
pub mod ConstraintLaws
pub mod ExtensionLaws
