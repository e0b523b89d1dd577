-- The second stage of a unit, the relation of a sheet, and what a rival is.
pub mod Gates
pub mod Relation
pub mod Rival
pub mod Present
pub mod Cases
pub mod Formed
pub mod Inner
