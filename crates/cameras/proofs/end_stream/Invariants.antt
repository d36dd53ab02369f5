-- `cameras::end_stream` meets its contract: all holds of the camera are given back. Assumes nothing.
use mathlib.Core.Path.{◌≡◌}
use Rattle.cameras.specs.Entries.{free_of, each}
use Rattle.cameras.proofs.end_stream.Given as goal

abbrev pub invariant-loop-i : goal.invariant-loop-i
invariant-loop-i l = (l.after.all ≡ each (free_of l.camera) l.i l.initial.after.all)
