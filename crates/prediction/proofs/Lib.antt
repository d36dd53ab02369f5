-- Laws about the definitions of prediction.
pub mod PredictionLaws
