-- The definitions of the colour lines between passes, and of sets of colour lines.
pub mod ColourLines
pub mod Sets
pub mod Inside
