-- The laws of text in a buffer, and how the lines are spelt.
pub mod Writing
pub mod Words
