-- The laws of rounding.
pub mod Nearest
mod Signs
mod Reciprocal
pub mod Halves
mod Raised
