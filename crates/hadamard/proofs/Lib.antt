-- The laws, from simple to strong.
pub mod Common
pub mod Zip
pub mod Folds
pub mod Loudness
pub mod Spectrum
pub mod Order
pub mod Examples
pub mod Size
pub mod Turns
pub mod Pairs
pub mod Quarters
pub mod Pieces
