-- What the contracts of this crate speak of. All its functions are inner functions of the search.
pub mod Inner
