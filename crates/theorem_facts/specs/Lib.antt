-- What document 01 says of its own rules.
pub mod Facts
