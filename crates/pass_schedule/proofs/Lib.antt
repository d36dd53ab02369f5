-- Laws of passes and steps, for its own proofs and for those of the crates above.
pub mod OrderLaws
pub mod PlanLaws
pub mod ScheduleLaws
pub mod TurnLaws
