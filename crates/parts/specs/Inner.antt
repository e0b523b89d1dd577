-- Meanings that only inner functions use: no public contract reaches them.
pub mod Boards
pub mod Pairs
pub mod Words
pub mod Masks
pub mod Cells
pub mod Picks
pub mod Parts
pub mod States
