-- The laws of every run of calls.
pub mod Memory
pub mod Steps
pub mod Begun
pub mod History
pub mod UnderWay
pub mod KeptEdition
pub mod Answers
pub mod EveryRun
pub mod Undone
pub mod AsIf
pub mod Numbers
pub mod Order
pub mod ExactLevels
pub mod Determined
pub mod Late
pub mod LateNights
