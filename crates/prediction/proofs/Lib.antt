-- The laws of predictions.
pub mod Foretelling
pub mod Terms
pub mod Order
pub mod Paper
