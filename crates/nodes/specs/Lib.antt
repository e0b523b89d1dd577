-- The nodes of a table: its cells on a board that shares selectors.
pub mod Nodes
pub mod Subfunctions
pub mod Counts
pub mod Inner
