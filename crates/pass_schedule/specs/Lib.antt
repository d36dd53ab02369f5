-- The passes of a line and their steps.
pub mod Steps
pub mod Inside
