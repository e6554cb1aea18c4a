-- The laws of the calls that change a campaign.
pub mod Passing
pub mod EntryCases
pub mod Handed
pub mod Late
