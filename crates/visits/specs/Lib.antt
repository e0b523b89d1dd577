-- No public contract has a meaning of this crate; under Inner, what the contracts of its functions speak of.
pub mod Inner
