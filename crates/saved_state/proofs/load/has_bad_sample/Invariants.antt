-- `saved_state::load::has_bad_sample` meets its contract: no sample before j is bad. Assumes nothing.
use mathlib.Core.Bool.{false}
use mathlib.Core.Path.{◌≡◌}
use Prim.Native.Nat.{◌*◌}
use Rattle.saved_state.specs.Checkpoints.{bad_sample, any_below}
use Rattle.saved_state.proofs.load.has_bad_sample.Given as goal

abbrev pub invariant-loop-j : goal.invariant-loop-j
invariant-loop-j l = (l.end ≡ 6 * l.w) × (any_below l.j (bad_sample l.bits l.s) ≡ false)
