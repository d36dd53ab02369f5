-- Laws about the definitions of quantiser.
pub mod QuantiserLaws
pub mod GradientLaws
