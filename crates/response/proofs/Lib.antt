-- The laws of responses.
pub mod Shifted
pub mod Recovery
pub mod Along
pub mod Ones
pub mod Linear
pub mod Register
pub mod Laying
pub mod Strands
pub mod Kernel
pub mod FastRoute
pub mod Transformed
pub mod Clearing
pub mod Checks
pub mod Order
pub mod Enough
pub mod Late
