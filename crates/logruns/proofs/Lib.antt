-- The laws of the calls that a log makes.
pub mod Printing
pub mod Recording
pub mod Following
pub mod Editions
pub mod Promises
