pub mod Lanes
pub mod Replaced
pub mod Empty
pub mod Projected
pub mod Chosen
pub mod First
