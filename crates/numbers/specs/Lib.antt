-- What the program's own numbers are.
pub mod Signals
