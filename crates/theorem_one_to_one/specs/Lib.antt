-- Tight blocks and sets of colour lines correspond one to one: the statements.
pub mod PredictedSets
pub mod Correspondence
pub mod Calls
pub mod AcceptedStreams
pub mod Lengths
pub mod LengthsApart
pub mod Sixteens
pub mod FirstWrong
-- The base by which a sample was coded.
pub mod UsedBases
