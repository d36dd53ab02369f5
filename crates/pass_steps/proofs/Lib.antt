-- Laws about what reading and writing share.
pub mod LookLaws
pub mod TableLaws
pub mod ZipLaws
pub mod ContextLaws
pub mod KLaws
