-- A law that the proofs share.
pub mod SameWords
