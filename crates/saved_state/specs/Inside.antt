-- Inside. What only our own functions say.
use Rattle.std.specs.Prelude.{Bool, List, ◌≡◌, ℕ, ◌<◌, length, get_or}
use Rattle.saved_state.specs.Checkpoints.{Saved, size_of_checkpoint, checkpoint_byte}

pub record IsCheckpoint (lossless : Bool) (W : ℕ) (z : Saved) (s : List ℕ) : Type 0 where
  pub whole : length s ≡ size_of_checkpoint W
  pub bytes : (i : ℕ) → i < size_of_checkpoint W → get_or s i 0 ≡ checkpoint_byte lossless W z i
