-- What only inner functions are told by.
pub mod Parts
pub mod Split
