-- The laws of the log program's input and output.
mod Behind
mod Steps
pub mod LastTurn
