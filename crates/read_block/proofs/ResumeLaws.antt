-- Reading from a line on is the one reading with a place to start from. Assumes nothing.
use mathlib.Core.List.{List}
use mathlib.Core.Path.{◌≡◌}
use Prim.Native.Nat.{ℕ, ◌+◌}
use Rattle.read_pass.specs.Readings.{and_then}
use Rattle.read_block.specs.Blocks.{State, read_line_at, start_state, read_lines, read_from}
use Rattle.read_block.specs.declared.Form.{Form}
use Rattle.read_block.proofs.RunLaws.{runs_none, runs_more, runs_from_0, runs_split}
use Rattle.std.specs.Prelude.{Some}

module _ (F : Form) (bases s : List ℕ) where
  -- from the top it is the reading
  pub from_top : (n : ℕ) → read_from F bases s 0 (start_state F bases) n ≡ read_lines F bases s n
  unfolding read_from read_lines
  from_top n = runs_from_0 (read_line_at F bases s) (start_state F bases) n

  -- lines 0 to k + m are lines 0 to k and then m more
  pub split : (k m : ℕ) → read_lines F bases s (k + m) ≡ and_then (read_lines F bases s k) (λ z. read_from F bases s k z m)
  unfolding read_from read_lines
  split k m = runs_split (read_line_at F bases s) (start_state F bases) k m

  -- so, where the first k lines are read, going on from what they leave is the reading
  pub goes_on : (k m : ℕ) (z : State) → read_lines F bases s k ≡ Some z → read_from F bases s k z m ≡ read_lines F bases s (k + m)
  unfolding and_then
  goes_on k m z e = rw (split k m, e)

  -- no line, and one more
  pub from_none : (k : ℕ) (z : State) → read_from F bases s k z 0 ≡ Some z
  unfolding read_from
  from_none k z = runs_none (λ i. read_line_at F bases s (k + i)) z

  pub from_more : (k m : ℕ) (z y : State) → read_from F bases s k z m ≡ Some y → read_from F bases s k z (m + 1) ≡ read_line_at F bases s (k + m) y
  unfolding read_from
  from_more k m z y e = runs_more (λ i. read_line_at F bases s (k + i)) z m y e
