-- What only laws use.
pub mod Laws
