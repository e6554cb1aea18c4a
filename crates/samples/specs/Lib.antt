-- What a reader must believe of samples and of the room lent for them.
pub mod Samples
