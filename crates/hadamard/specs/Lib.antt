-- What the contracts of `hadamard` cite: Transform is what a caller reads, Butterflies what the private functions say.
pub mod Transform
pub mod Butterflies
