-- The joint quote (document 02, E6): its cases, its equation, and its promise.
pub mod Cases
pub mod Joint
pub mod Promised
pub mod Inner
