-- The laws of samples and of the room lent for them.
pub mod Sizes
pub mod Rails
pub mod Rooms
pub mod Checks
