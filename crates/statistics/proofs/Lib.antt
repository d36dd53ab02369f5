-- Laws about the definitions of statistics.
pub mod RecordLaws
pub mod LengthLaws
