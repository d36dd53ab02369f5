-- The definitions of what is counted of a block's lines.
pub mod Totals
pub mod Inside
