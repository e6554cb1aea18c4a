-- The three demands, and the C door's share of them.
mod Checking
mod Tails
mod Measuring
mod Clearing
mod Handing
pub mod Demands
pub mod DoorCalls
pub mod DoorRuns
pub mod Determined
