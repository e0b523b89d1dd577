-- What the contracts of inner functions speak of.
pub mod Tables
pub mod Wires
pub mod Listed
pub mod Numbers
