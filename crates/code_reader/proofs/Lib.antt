-- Laws about reading a code, for its own proofs and for those of the crates above.
pub mod ShortLaws
