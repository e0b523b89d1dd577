-- The sets of a section's patterns by value: for each value the patterns where it can stand.
pub mod Inner
