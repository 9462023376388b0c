pub mod AnchorLaws
pub mod KeyLaws
pub mod KindLaws
pub mod ListLemmas
pub mod ModuleLaws
pub mod RecordLaws
pub mod WritingLemmas
