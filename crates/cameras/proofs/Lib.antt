-- The laws about entries.
pub mod SearchLaws
pub mod EntryLaws
pub mod HoldLaws
pub mod SoundLaws
