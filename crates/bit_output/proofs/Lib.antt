-- Laws about storing bits.
pub mod PutLaws
pub mod WordLaws
