-- The program's lines as bytes, and, in `Inner`, what only the functions that put them need.
pub mod Lines
pub mod Inner
