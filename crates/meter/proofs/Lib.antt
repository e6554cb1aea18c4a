-- The laws of the C door.
mod Copying
pub mod Opening
pub mod Telling
pub mod Showing
pub mod Starting
