-- What a region and the whole picture have in common.
pub mod Agreement
