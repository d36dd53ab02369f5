-- Laws about the definitions of code, for its own proofs and for those of the crates above.
pub mod CodeLaws
pub mod TightLaws
-- Laws about codes and samples, for its own proofs and for those of the crates above.
pub mod SampleLaws
pub mod NearLaws
pub mod MovedLaws
pub mod ChoiceLaws
