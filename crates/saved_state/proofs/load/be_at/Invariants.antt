-- `saved_state::load::be_at` meets its contract: the number of the first k bytes. Assumes nothing.
use mathlib.Core.Path.{◌≡◌}
use Prim.Native.Nat.{◌^◌, ◌<◌}
use Rattle.saved_state.specs.Checkpoints.{be_at}
use Rattle.saved_state.proofs.load.be_at.Given as goal

abbrev pub invariant-loop-k : goal.invariant-loop-k
invariant-loop-k l = (l.x ≡ be_at l.s l.i l.k) × (l.x < 256 ^ l.k)
