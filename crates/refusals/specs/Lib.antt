-- What a reader must believe of refusals.
pub mod Causes
