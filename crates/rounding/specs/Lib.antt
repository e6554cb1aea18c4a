-- What a reader must believe of a mean.
pub mod Rounding
pub mod Halving
