-- Laws about plans of bases.
pub mod AnswerLaws
pub mod OneRecordLaws
pub mod NamedLaws
pub mod PlanCases
pub mod PlannedBytesHold
-- Laws about the records of a plan.
pub mod DigitLaws
pub mod RowLaws
pub mod RecordLaws
pub mod BaseLaws
-- Laws about counts of records.
pub mod CountLaws
