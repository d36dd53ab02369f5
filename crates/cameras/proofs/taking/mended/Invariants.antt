-- `cameras::taking::mended` meets its contract: entry by entry. Assumes nothing.
use mathlib.Core.Path.{◌≡◌}
use Rattle.cameras.specs.Entries.{mended_entry, each}
use Rattle.cameras.proofs.taking.mended.Given as goal

abbrev pub invariant-loop-i : goal.invariant-loop-i
invariant-loop-i l = (l.after.all ≡ each (mended_entry) l.i l.initial.after.all)
