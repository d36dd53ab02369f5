-- Laws about writing.
pub mod SetLaws
pub mod WriteLaws
pub mod LosslessLaws
pub mod ChosenLaws
pub mod CodePuts
pub mod StepPuts
pub mod SitePuts
pub mod TurnPuts
pub mod PassLaws
pub mod BoundLaws
pub mod LookLaws
