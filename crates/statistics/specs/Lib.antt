-- The definitions of the adaptive statistics.
pub mod Statistics
pub mod Inside
