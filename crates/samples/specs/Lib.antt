-- What the input of the trials holds, and what its replies are made of beside the report's parts.
pub mod Inner
