-- Meanings that only inner functions use: no public contract reaches them.
pub mod Conflicts
pub mod States
