-- What a reader must believe of the C door.
pub mod Players
pub mod Doors
