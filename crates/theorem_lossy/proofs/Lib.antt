-- Proofs that lossy blocks read back.
pub mod NeverWrong
pub mod LossyHolds
pub mod LossyCallsHold
pub mod WorkedCases
pub mod NearestHolds
pub mod IgnoredHolds
