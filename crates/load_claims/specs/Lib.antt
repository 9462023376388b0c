pub mod Items
pub mod Kept
pub mod Inside
pub mod Lives
pub mod Headline
pub mod Boards
