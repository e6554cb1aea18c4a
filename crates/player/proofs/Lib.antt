-- The laws of the player, for any order.
pub mod Playable
pub mod Playing
pub mod Blocks
