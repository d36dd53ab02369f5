-- The definitions of the head of a stored state.
pub mod Heads
-- The definitions of stored states.
pub mod Checkpoints
-- The definitions of a state that is stored and gone on from.
pub mod BlockStates
pub mod Storing
pub mod Resuming
pub mod Calls
pub mod Words
pub mod Inside
