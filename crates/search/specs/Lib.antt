-- The answer of a search told by document 01's numbers.
pub mod Cases
