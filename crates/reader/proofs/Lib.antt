-- Laws of reading unit sheets.
pub mod Replies
pub mod InRange
pub mod Steps
pub mod Passages
pub mod Turns
pub mod Opening
pub mod Wiring
pub mod Marks
pub mod Sound
pub mod Enough
pub mod Rows
pub mod FirstRefusals
pub mod Numbers
pub mod ReadBack
pub mod Placed
