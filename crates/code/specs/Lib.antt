-- The definitions of a code: reading one, and its bits in tight form.
pub mod Codes
pub mod Tight
-- From a code to a sample, and the code of a wanted sample.
pub mod Samples
pub mod Wanted
pub mod Nearest
-- The definitions of a bad code.
pub mod Reasons
pub mod UsedBits
pub mod Inside
