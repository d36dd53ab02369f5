-- Inside. What only our own functions say.
use Rattle.std.specs.Prelude.{List, ◌≡◌, ℕ, ◌+◌, length}
use Rattle.std.proofs.Math.Seq.{paste}

-- a text is put into a buffer from a place on; what stands before and after it stays
pub record Put (before : List ℕ) (at : ℕ) (text after : List ℕ) (end : ℕ) : Type 0 where
  pub ends : end ≡ at + length text
  pub put : after ≡ paste before at text (length text)
