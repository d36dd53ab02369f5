-- Laws about the definitions of regions, for the proofs of this crate and for those of the crates above.
pub mod CheckLaws
pub mod RegionLaws
