-- What a reader must believe of the calls that change a campaign.
pub mod Calls
