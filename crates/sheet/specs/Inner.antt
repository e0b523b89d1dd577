-- What only inner functions use.
pub mod Gathering
pub mod Sized
