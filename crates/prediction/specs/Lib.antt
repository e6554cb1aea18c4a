-- What a reader must believe of a prediction.
pub mod Calls
