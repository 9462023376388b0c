pub mod KeyRecord
pub mod ModuleRecord
pub mod ModuleReading
pub mod ModuleView
pub mod Reading
