-- What the contracts of `year` cite.
pub mod Lent
