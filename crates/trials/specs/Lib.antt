-- Sizes of the trials' program.
pub mod Inner
