-- The definition of storing bits.
pub mod Output
