-- The laws of the digest.
pub mod Folding
