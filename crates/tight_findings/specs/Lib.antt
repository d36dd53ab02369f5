-- The definitions of the report on a stream that is not tight.
pub mod Findings
pub mod TrueFindings
-- The text of what is found.
pub mod Texts
pub mod Inside
