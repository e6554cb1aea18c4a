-- What a reader must believe of the calls that a log makes.
pub mod Calls
