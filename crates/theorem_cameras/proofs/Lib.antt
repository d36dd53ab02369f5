-- The proof.
pub mod HistoryLaws
pub mod TwoCamerasHold
