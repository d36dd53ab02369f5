-- The definitions of reading a pass.
pub mod Readings
pub mod Sites
pub mod Pairs
pub mod Windows
