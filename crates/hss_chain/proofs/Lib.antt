mod LevelLemmas
mod KeyLemmas
