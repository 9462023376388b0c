pub mod Covers
pub mod Permits
pub mod Tests
pub mod Grants
pub mod Places
pub mod Index
pub mod Kinds
pub mod GrantView
