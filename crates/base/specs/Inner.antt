-- What only inner functions are told by.
pub mod Put
pub mod Lowest
