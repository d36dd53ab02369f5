-- `saved_state::store::store_set` meets its contract: the bytes before i are stored. Assumes nothing.
use mathlib.Core.Path.{◌≡◌}
use Prim.Native.Nat.{◌+◌, ◌*◌}
use lib.ListN.{length}
use Rattle.pass_steps.specs.Values.{zip_records}
use Rattle.saved_state.specs.Heads.{put_each}
use Rattle.saved_state.specs.Checkpoints.{records_byte}
use Rattle.saved_state.proofs.store.store_set.Given as goal

abbrev pub invariant-loop-i : goal.invariant-loop-i
invariant-loop-i l =
    (length l.out ≡ length l.initial.out) × (length l.sums ≡ 112) × (length l.ns ≡ 112) × (l.from ≡ 27 + 560 * l.g)
    × (l.out ≡ put_each (records_byte l.lossless (zip_records l.sums l.ns)) l.from l.i l.initial.out)
