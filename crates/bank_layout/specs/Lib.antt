pub mod Layout
pub mod Manifest
pub mod Recovery
pub mod Changes
pub mod Reading
pub mod ReadingView
pub mod Tables
