-- What the program's inner functions are told by.
pub mod Inner
