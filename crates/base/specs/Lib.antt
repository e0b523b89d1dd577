-- What every format shares.
pub mod Refusals
pub mod Cases
pub mod Buffers
pub mod Lowest
pub mod Each
pub mod Tabulate
pub mod Inner
