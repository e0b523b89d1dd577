pub mod Decimal
pub mod Pages
pub mod Pairs
pub mod Rows
