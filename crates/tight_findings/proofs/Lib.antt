-- Laws of the search and of the report.
pub mod FindingLaws
pub mod TrueFindingLaws
-- Laws of texts in a buffer, and worked cases.
pub mod TextLaws
pub mod ReportCases
