pub mod Wraps
pub mod ImageBlocks
pub mod Plans
pub mod Streams
