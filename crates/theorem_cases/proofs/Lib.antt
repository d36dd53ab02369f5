-- The proof of the table.
pub mod CasesHold
pub mod NumbersHold
pub mod RefusedCallsHold
