-- What a reader must believe of a longer buffer, and of a caller of the C door.
pub mod Buffers
pub mod Caller
