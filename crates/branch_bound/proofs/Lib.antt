pub mod Picks
pub mod Treating
pub mod Depth
pub mod Families
pub mod Wide
