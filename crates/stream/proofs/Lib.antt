-- Laws about the definitions of streams, for the proofs of this crate and for those of the crates above.
pub mod StreamLaws
-- Laws about headers and refusals, for the proofs of this crate and for those of the crates above.
pub mod RefusalLaws
pub mod HeaderLaws
