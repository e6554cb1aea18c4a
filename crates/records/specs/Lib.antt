-- What a reader must believe of a campaign's record.
pub mod Record
pub mod Blocks
