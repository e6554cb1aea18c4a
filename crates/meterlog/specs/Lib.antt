-- What a reader must believe of the log program's input and output.
pub mod Buffer
pub mod Telling
