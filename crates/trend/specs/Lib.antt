-- What a reader must believe of what a campaign says.
pub mod Calls
