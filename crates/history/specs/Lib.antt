-- What a reader must believe of a run of calls.
pub mod Run
