-- What a reader must believe of the log program.
pub mod Program
pub mod Reads
