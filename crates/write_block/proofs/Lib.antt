-- What callers cite of the functions over lent records, and laws of the definitions of writing a block.
pub mod WrittenLaws
pub mod WalkLaws
pub mod AnswerLaws
pub mod BoundLaws
pub mod LookLaws
pub mod LeftLaws
