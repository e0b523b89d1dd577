-- Unit sheets: limits, commands, and what the commands come to.
pub mod Limits
pub mod Commands
pub mod Bytes
pub mod Gathered
pub mod SaySame
pub mod Judged
pub mod Cases
pub mod Inner
