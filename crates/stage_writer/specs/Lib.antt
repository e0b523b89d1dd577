-- Writing stages. What only inner functions use is in Inner.
pub mod Inner
