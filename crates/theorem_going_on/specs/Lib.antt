-- What going on from a stored state gives.
pub mod GoingOn
pub mod Layout
pub mod TwoCalls
