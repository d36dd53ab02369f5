-- `saved_state::load::load_line` meets its contract: the samples before p are loaded. Assumes nothing.
use mathlib.Core.Path.{◌≡◌}
use Prim.Native.Nat.{◌+◌, ◌*◌, ◌≤◌}
use lib.ListN.{length}
use Rattle.saved_state.specs.Heads.{put_each}
use Rattle.saved_state.specs.Checkpoints.{stored_sample, kept_line}
use Rattle.saved_state.proofs.load.load_line.Given as goal

abbrev pub invariant-loop-p : goal.invariant-loop-p
invariant-loop-p l =
    (length l.lines ≡ length l.initial.lines) × (l.first ≡ l.m * l.w) × (l.first ≤ 5 * l.w) × (l.from ≡ kept_line l.m * (l.w + 2) + 1) × (l.from + (l.w + 1) ≤ 18 * (l.w + 2))
    × (l.lines ≡ put_each (λ i. stored_sample l.s (l.first + i)) l.from l.p l.initial.lines)
