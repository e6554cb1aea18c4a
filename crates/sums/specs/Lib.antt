-- What the definitions of every crate are written with.
pub mod Sum
pub mod Lists
pub mod Largest
pub mod Equal
pub mod Refusals
pub mod Text
pub mod Turned
