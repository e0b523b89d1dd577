pub mod Lanes
pub mod Chosen
pub mod Refused
pub mod Spreads
pub mod SectionSums
pub mod Words
pub mod Puts
pub mod Told
