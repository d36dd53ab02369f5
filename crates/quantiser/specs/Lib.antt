-- The definitions of the quantisers.
pub mod Quantisers
pub mod Inside
