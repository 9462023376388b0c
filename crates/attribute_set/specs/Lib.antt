pub mod AttributeSet
pub mod Items
pub mod Types
