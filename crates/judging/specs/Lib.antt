-- What a reader must believe of judging.
pub mod Judging
