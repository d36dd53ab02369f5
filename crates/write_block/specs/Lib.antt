-- The definitions of writing a block.
pub mod WrittenBlocks
pub mod WrittenAnswers
pub mod WriterParts
pub mod Words
-- The definitions of what follows once the bits of a set are counted.
pub mod Counted
pub mod Inside
