pub mod PickTables
pub mod WholePicks
pub mod Beginnings
pub mod FirstAnswer
pub mod Entry
pub mod Cases
