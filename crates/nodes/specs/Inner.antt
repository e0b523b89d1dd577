-- What only inner functions use.
pub mod Tops
pub mod Ways
