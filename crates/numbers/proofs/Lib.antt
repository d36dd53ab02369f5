-- Laws about the definitions of numbers, for the crates above.
pub mod OrderLaws
pub mod LeastLaws
pub mod BoolLaws
pub mod FillLaws
pub mod TableLaws
pub mod FlagLaws
pub mod PassedLaws
