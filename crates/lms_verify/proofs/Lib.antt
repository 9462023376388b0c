mod ChainLemmas
mod CheckLemmas
mod DigitLemmas
mod TextLemmas
mod TreeLemmas
pub mod Writes
