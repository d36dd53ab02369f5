-- The definitions that reading and writing share.
pub mod Contexts
pub mod Values
