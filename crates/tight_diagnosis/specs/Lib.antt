-- The definitions of why a block is not tight.
pub mod Faults
-- The definitions of the second walk.
pub mod Ways
pub mod Due
pub mod Traces
