-- The laws of the log program.
pub mod Turns
pub mod Streaming
pub mod Example
mod Rows
