-- `read_set::copy_samples` meets its contract. The invariant: the first j samples are copied. Assumes nothing.
use mathlib.Core.Path.{◌≡◌}
use lib.ListN.{length, take, drop}
use Rattle.read_set.specs.HandedSets.{put_over}
use Rattle.read_set.proofs.copy_samples.Given as goal

abbrev pub invariant-loop-j : goal.invariant-loop-j
invariant-loop-j l = (length l.to ≡ length l.initial.to) × (l.to ≡ put_over l.initial.to l.start (take l.j (drop l.at l.from)))
