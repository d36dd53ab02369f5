-- `saved_state::store::store_lines` meets its contract: the bytes before i are stored. Assumes nothing.
use mathlib.Core.Path.{◌≡◌}
use Prim.Native.Nat.{◌*◌}
use lib.ListN.{length}
use Rattle.saved_state.specs.Heads.{put_each}
use Rattle.saved_state.specs.Checkpoints.{lines_byte}
use Rattle.saved_state.proofs.store.store_lines.Given as goal

abbrev pub invariant-loop-i : goal.invariant-loop-i
invariant-loop-i l =
    (length l.out ≡ length l.initial.out) × (l.end ≡ 12 * l.w) × (l.out ≡ put_each (lines_byte l.w l.lines) 1707 l.i l.initial.out)
