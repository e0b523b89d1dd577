-- What only inner functions use.
pub mod Wires
pub mod Listed
