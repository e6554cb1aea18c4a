-- What a reader must believe of a response and a prediction.
pub mod Response
pub mod Calls
pub mod Route
