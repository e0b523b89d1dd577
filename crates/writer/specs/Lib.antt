-- Writing unit sheets: what inner functions speak of. What the bytes of a command are is told in crate sheet.
pub mod Inner
