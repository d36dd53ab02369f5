-- Laws about the definitions of the map, for its own proofs and for those of the crates above.
pub mod PlaceLaws
pub mod RowLaws
pub mod PartLaws
pub mod ChangeLaws
-- Laws about a row that is put into the image.
pub mod StartLaws
-- Laws about colour lines that go to the image by themselves.
pub mod WindowLaws
