-- Numbers and bytes as printed text.
pub mod Text
pub mod Inner
