-- The proof.
pub mod AgreementLaws
pub mod AgreementHolds
