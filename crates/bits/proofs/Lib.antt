-- Laws about the definitions of bits, for its own proofs and for those of the crates above.
pub mod BitLaws
pub mod RunLaws
pub mod ListLaws
pub mod PackLaws
