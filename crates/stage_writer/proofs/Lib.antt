pub mod Firsts
pub mod Lasts
pub mod Finding
pub mod Nodes
pub mod Halves
pub mod Storing
pub mod Entries
pub mod Forms
