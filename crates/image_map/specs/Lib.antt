-- The definitions of the map from colour lines to the image.
pub mod Places
pub mod Rows
-- The definitions of a row that is put into the image.
pub mod Starts
-- The definition of rows that become 0.
pub mod Zeros
-- The definitions of lines that go to the image.
pub mod Windows
pub mod Inside
