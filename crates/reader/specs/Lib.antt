-- Reading unit sheets.
pub mod Reader
pub mod Reading
pub mod Inner
