-- What a reader must believe of the default taps.
pub mod Calls
