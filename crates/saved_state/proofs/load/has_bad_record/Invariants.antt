-- `saved_state::load::has_bad_record` meets its contract: no record before j is bad. Assumes nothing.
use mathlib.Core.Bool.{false}
use mathlib.Core.Path.{◌≡◌}
use Rattle.saved_state.specs.Checkpoints.{bad_record, any_below}
use Rattle.saved_state.proofs.load.has_bad_record.Given as goal

abbrev pub invariant-loop-j : goal.invariant-loop-j
invariant-loop-j l = (any_below l.j (bad_record l.s) ≡ false)
