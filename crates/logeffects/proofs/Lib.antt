-- The laws of what a log's items do.
pub mod Rows
pub mod Starts
pub mod Held
mod Shut
