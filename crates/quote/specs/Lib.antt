-- The quote and its promise (demand 3); the audit.
pub mod Cases
pub mod Quote
pub mod Promised
pub mod AnyQuote
pub mod Audit
pub mod Inner
