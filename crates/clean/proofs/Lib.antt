pub mod Listed
pub mod Saying
pub mod Ordering
pub mod ReadingCopies
pub mod CopyLengths
pub mod Storing
pub mod Promises
