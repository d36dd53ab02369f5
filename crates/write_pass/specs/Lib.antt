-- The definitions of writing.
pub mod Writings
pub mod Puts
pub mod Looks
