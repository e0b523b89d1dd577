-- What only inner functions use.
pub mod Turns
pub mod WasRead
pub mod Widths
