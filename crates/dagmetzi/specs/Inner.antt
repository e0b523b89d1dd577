-- What only inner functions are told by.
pub mod Lengths
