-- What the lines of a program say of a long list.
pub mod Digest
