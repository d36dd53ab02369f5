-- The marked cases.
pub mod Cases
pub mod NumberCases
pub mod RefusedCalls
