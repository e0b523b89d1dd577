-- What only inner functions are told by.
pub mod Lengths
pub mod Records
pub mod Lines
