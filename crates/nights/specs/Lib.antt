-- What a reader must believe of a night's samples.
pub mod Nights
