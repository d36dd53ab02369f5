-- The definitions of a block.
pub mod Records
pub mod Between
pub mod Blocks
pub mod Walks
pub mod Lent
pub mod Images
pub mod BadCodes
pub mod BadSpots
pub mod TightBlocks
pub mod Totals
pub mod BlockReadings
pub mod Sharing
pub mod Words
pub mod WindowedImages
pub mod WindowedLines
pub mod WindowedAgreement
pub mod Inside
