pub mod Computed
pub mod Entries
pub mod Least
pub mod Reduced
pub mod Reading
pub mod DiagramForm
pub mod Forms
