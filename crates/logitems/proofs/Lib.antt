-- The laws of a campaign's log.
pub mod Finding
pub mod Standing
