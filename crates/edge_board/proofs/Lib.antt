pub mod Filled
pub mod Replays
pub mod MemCalls
pub mod SureCalls
pub mod RunLemmas
pub mod SendLemmas
