pub mod SameLemmas
pub mod PutLemmas
pub mod StateLemmas
pub mod KeyedLemmas
pub mod MetLemmas
