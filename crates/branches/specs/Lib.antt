-- What the cycle asks of a part.
pub mod Inner
