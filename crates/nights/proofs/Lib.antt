-- The laws of a night's samples.
pub mod Terms
pub mod Late
