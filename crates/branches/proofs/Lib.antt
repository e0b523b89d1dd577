pub mod Carrying
pub mod Steps
pub mod Treated
pub mod Ready
pub mod Kept
