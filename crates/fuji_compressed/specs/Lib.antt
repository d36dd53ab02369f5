-- What the functions for C that lend no scratch answer; what the others leave stands in specs/Words.antt of the crate of their entry.
pub mod Streams
pub mod Planning
