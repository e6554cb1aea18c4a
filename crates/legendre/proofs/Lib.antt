-- The laws of Legendre sequences.
pub mod Offered
pub mod Exactly
pub mod Bits
pub mod Worded
pub mod Certificate
pub mod Flatness
pub mod Recovered
pub mod Squares
pub mod OnesMeet
pub mod Heard
pub mod Paper
pub mod Order
