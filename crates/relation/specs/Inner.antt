-- What only inner functions and the laws use.
pub mod Source
pub mod Members
pub mod Masks
pub mod Side
pub mod Narrowed
