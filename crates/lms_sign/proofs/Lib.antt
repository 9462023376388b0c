mod ChainLemmas
mod HoldsLemmas
mod KeyLemmas
mod PathLemmas
mod TreeLemmas
