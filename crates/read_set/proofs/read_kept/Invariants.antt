-- `read_set::read_kept` meets its contract: n lines have been read, and stand in the set. Assumes nothing.
use mathlib.Core.Path.{◌≡◌}
use Prim.Native.Nat.{◌≤◌}
use lib.ListN.{length}
use Rattle.admission.specs.Beginnings.{samples_needed}
use Rattle.read_set.proofs.KeptLaws.{Kept}
use Rattle.read_set.proofs.read_kept.Given as goal

abbrev pub invariant-loop-n : goal.invariant-loop-n
invariant-loop-n l =
    (length l.lines ≡ samples_needed l.form.xtrans) × (length l.rs ≡ 336) × (length l.set ≡ length l.initial.set) × (l.tight.lines ≤ l.n)
    × (length l.nothing ≡ 1)
    × Kept l.form l.bases l.block l.initial.set l.n l.lines l.rs l.set l.place l.tight l.all
