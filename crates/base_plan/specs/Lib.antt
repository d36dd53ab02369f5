-- The definitions of plans of bases.
pub mod Plans
pub mod OneRecord
pub mod PlannedBytes
-- The definitions of the records of a plan.
pub mod Records
pub mod Readings
-- The definitions of counts of records.
pub mod Counts
pub mod Inside
