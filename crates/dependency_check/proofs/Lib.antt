pub mod PlaceLemmas
pub mod NeedLemmas
pub mod UnmetLemmas
