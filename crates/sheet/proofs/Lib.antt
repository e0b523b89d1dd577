-- Laws of unit sheets.
pub mod Lists
pub mod Keys
pub mod Shares
pub mod Powers
pub mod Sizes
pub mod FirstRefusals
pub mod Growing
pub mod Fields
pub mod Judging
pub mod Permitted
pub mod SayingSame
pub mod Cases
