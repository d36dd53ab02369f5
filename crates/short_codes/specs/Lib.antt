-- The definitions of the sheets of short codes.
pub mod Sheets
pub mod Whole
pub mod Inside
