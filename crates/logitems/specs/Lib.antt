-- What a reader must believe of a campaign's log.
pub mod Kinds
pub mod Phases
pub mod Log
