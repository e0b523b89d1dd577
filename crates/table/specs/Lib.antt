-- Truth tables: bits, cells, decision trees, and the pick.
pub mod Bits
pub mod Cells
pub mod Tree
pub mod Drawing
pub mod Pick
pub mod Inner
