-- Laws about bytes that are put one after the other.
pub mod PutLaws
-- Laws about stored states.
pub mod ByteLaws
pub mod StateLaws
pub mod PartLaws
pub mod RangeLaws
pub mod LoadedLines
pub mod Cases
-- What callers cite of the functions over lent records, and laws of the definitions of stored states.
pub mod StoredLaws
pub mod LoadLaws
pub mod ResumedLaws
pub mod StoringLaws
pub mod LeftLaws
