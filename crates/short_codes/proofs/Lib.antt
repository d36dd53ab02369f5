-- Laws about the sheets of short codes.
pub mod SheetLaws
pub mod WholeLaws
pub mod ReadLaws
pub mod SheetCases
