-- Decision diagrams: what drives a wire of the board that shares selectors, their bytes and their reading, and what the writer makes of a table; and they as a
-- form of stage sheets.
pub mod Diagram
pub mod Bytes
pub mod Read
pub mod Written
pub mod Diagrams
pub mod Forms
