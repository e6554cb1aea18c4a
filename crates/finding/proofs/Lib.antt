-- The laws of what a recording is found to be.
pub mod Exactly
pub mod Folded
pub mod Loud
pub mod Numbers
pub mod Late
