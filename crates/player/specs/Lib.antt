-- What a reader must believe of the player.
pub mod Calls
