-- What a reader must believe of what a recording is found to be.
pub mod Finding
