-- `cameras::taking::take_lines` meets its contract: line by line, until one has no entry. Assumes nothing.
use mathlib.Core.Path.{◌≡◌}
use Rattle.cameras.specs.Entries.{after_lines, lines_with_entry, AllNumbered}
use Rattle.cameras.proofs.taking.take_lines.Given as goal

abbrev pub invariant-loop-n : goal.invariant-loop-n
invariant-loop-n l =
    (l.after.all ≡ after_lines l.camera l.bits l.bases l.initial.after.all l.n) × (lines_with_entry l.camera l.bits l.bases l.initial.after.all l.n ≡ l.n)
    × AllNumbered l.after.all
