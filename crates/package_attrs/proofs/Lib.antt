pub mod IdentifierLaws
pub mod Falls
pub mod FewNames
pub mod CoverLemmas
pub mod ListLaws
pub mod ReadingLemmas
pub mod PackageLaws
