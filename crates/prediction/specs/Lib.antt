-- The definitions of the prediction.
pub mod Predictions
pub mod Inside
