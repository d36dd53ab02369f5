-- The definitions of regions.
pub mod Regions
pub mod Inside
