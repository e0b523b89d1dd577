pub mod Agreeing
pub mod Making
pub mod MadeAgain
pub mod Driven
