pub mod Clearing
pub mod Opening
pub mod StateChanges
