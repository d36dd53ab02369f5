-- The definitions of bits and of positions among them.
pub mod Bits
pub mod BitLists
pub mod Positions
pub mod Inside
