-- `read_set::keep_line` meets its contract. The invariant: the first c colour lines stand in the set. Assumes nothing.
use mathlib.Core.Path.{◌≡◌}
use Prim.Native.Nat.{◌+◌, ◌*◌, ◌≤◌}
use lib.ListN.{length}
use Rattle.pass_schedule.specs.Steps.{upto}
use Rattle.read_set.specs.HandedSets.{put_over}
use Rattle.read_set.proofs.PutLaws.{colour}
use Rattle.read_set.proofs.keep_line.Given as goal

abbrev pub invariant-loop-c : goal.invariant-loop-c
invariant-loop-c l =
    (length l.set ≡ length l.initial.set) × (l.set ≡ put_over l.initial.set l.first (upto (colour l.w l.lines) l.c)) × (l.first + 12 * l.w ≤ length l.initial.set) × (l.first ≤ 65536 * 6144)
