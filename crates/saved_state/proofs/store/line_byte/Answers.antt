-- `saved_state::store::line_byte` meets its contract. Assumes nothing.
use mathlib.Core.List.{List}
use mathlib.Core.Path.{◌≡◌}
use Prim.Native.Nat.{ℕ, ◌+◌, ◌*◌, ◌/◌, ◌%◌, ◌≤◌, ◌<◌}
use native.Mathlib.Nat.{mod-lt}
use lib.ListN.{get_or}
use Rattle.saved_state.specs.Heads.{be_byte}
use Rattle.saved_state.specs.Checkpoints.{kept_line, lines_byte}
use Rattle.saved_state.proofs.store.line_byte.Goals as goal

-- in one of the lines
inside : (w j : ℕ) → 1 ≤ w → j % w < w
inside w j h = mod-lt j h

stored : (w i l start r t : ℕ) (lines : List ℕ) → l ≡ kept_line (i / 2 / w) → start ≡ l * (w + 2) → t ≡ get_or lines (start + (i / 2 % w + 1)) 0
    → r ≡ be_byte 2 (i % 2) t → r ≡ lines_byte w lines i
unfolding lines_byte
stored w i l start r t lines e f g h = rw (h, g, f, e)

pub returns : goal.returns
returns c =
    stored _ _ _ _ _ _ _ c.kept_line.ensures.0 c.start_of.ensures.0 c.from.ensures c.be_byte.ensures
