-- The laws of what a campaign says.
pub mod Bounds
pub mod Leveling
pub mod Enough
pub mod Passing
pub mod MeansAlone
pub mod LevelSign
pub mod Opposed
pub mod Late
