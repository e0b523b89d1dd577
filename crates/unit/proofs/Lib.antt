-- Laws of the second stage and of the relation of a sheet.
pub mod Bits
pub mod GateTerms
pub mod Signals
pub mod HeldSignals
pub mod Members
pub mod Outputs
pub mod Allowed
pub mod Told
pub mod Forming
pub mod Relating
pub mod Rivals
pub mod Rows
pub mod Alike
pub mod Cases
