pub mod Row
pub mod KeyBlock
pub mod Histories
