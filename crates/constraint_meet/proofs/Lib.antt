pub mod TestLemmas
pub mod Members
pub mod Searches
pub mod PlaceLemmas
pub mod StandLemmas
pub mod LookupLemmas
pub mod ValueLemmas
pub mod PushLemmas
