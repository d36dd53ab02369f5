-- The statement.
pub mod TwoCameras
