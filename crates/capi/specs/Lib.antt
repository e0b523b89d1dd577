-- What the exported calls tell: a refusal's number, and six numbers.
pub mod Numbers
