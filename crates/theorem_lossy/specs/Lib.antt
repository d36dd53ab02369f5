-- Lossy blocks read back: the statement.
pub mod LossyBlocks
pub mod NearestSteps
pub mod IgnoredSamples
