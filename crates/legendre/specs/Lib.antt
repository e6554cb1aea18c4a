-- What a reader must believe of Legendre sequences; Working is what the contracts of the functions inside cite.
pub mod Legendre
pub mod Calls
pub mod Working
