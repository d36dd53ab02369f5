-- The proof of the facts.
pub mod FactsHold
