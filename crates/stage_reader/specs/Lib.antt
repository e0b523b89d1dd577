-- The stage reader's replies; what only its inner functions speak of is in Inner.
pub mod Cases
pub mod Inner
