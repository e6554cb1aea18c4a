-- What a reader must believe of the register.
pub mod Register
pub mod Calls
pub mod Doubling
