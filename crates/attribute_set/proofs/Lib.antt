pub mod ItemLemmas
pub mod Orders
pub mod OwnTypes
pub mod Readings
pub mod TypeLemmas
