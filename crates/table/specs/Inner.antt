-- What only inner functions use.
pub mod CellsWritten
pub mod Ranks
pub mod Blocks
pub mod Pairs
pub mod Lines
pub mod Wide
pub mod Columns
pub mod Drawing
