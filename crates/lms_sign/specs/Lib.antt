pub mod PublicKeys
pub mod Secrets
pub mod Nodes
pub mod Roots
pub mod SignTexts
pub mod KeyTrees
