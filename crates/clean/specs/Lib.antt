-- Clean copies of unit sheets.
pub mod Copy
pub mod Cleaned
pub mod CleanCopy
pub mod Inner
