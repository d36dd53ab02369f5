-- The definitions of streams and of the lengths of blocks.
pub mod Streams
pub mod Lengths
-- The definitions of headers and of the refusals.
pub mod Refusals
pub mod Headers
-- The definitions of ranges.
pub mod Ranges
-- A header as words.
pub mod Words
pub mod Inside
