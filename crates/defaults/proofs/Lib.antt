-- The laws of the default taps.
pub mod Certificate
