-- What only inner functions and the laws use.
pub mod ByValue
