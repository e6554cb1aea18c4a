-- The laws of the register, for any order.
pub mod Word
pub mod Dot
pub mod Windows
pub mod Recurrence
pub mod Orbit
pub mod Correlation
pub mod Judged
pub mod TagReturn
mod Factors
pub mod Divisors
pub mod OddTaps
pub mod HowShort
pub mod Sequences
pub mod Answered
