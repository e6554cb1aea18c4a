-- The laws of judging.
pub mod Heard
pub mod Judgements
pub mod Order
pub mod Late
