-- The laws of a campaign's record.
pub mod Holding
pub mod Tallying
pub mod Totals
pub mod Refiling
pub mod Chains
pub mod Loops
pub mod Whole
pub mod Reading
