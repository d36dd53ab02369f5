-- The definitions of the entries that two cameras share.
pub mod Entries
-- The definitions of the entries as words.
pub mod Words
