-- Stage sheets: their bytes, the writer's and the reader's replies, and that reading undoes writing, all over the form of a wire; and trees as such a form.
-- What only laws use is in Inner.
pub mod Steps
pub mod Form
pub mod Bytes
pub mod Read
pub mod Written
pub mod Reply
pub mod RoundTrip
pub mod TreeBytes
pub mod TreeRead
pub mod Trees
pub mod Inner
