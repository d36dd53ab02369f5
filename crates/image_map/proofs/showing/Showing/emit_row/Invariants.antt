-- `image_map::Showing::emit_row` meets its contract. The invariant: the columns from left up to p are stored from `at` on, and `column` is p mod 6; the measure:
-- the columns left. Assumes nothing.
use mathlib.Core.Path.{◌≡◌}
use Prim.Native.Nat.{◌-◌, ◌%◌, ◌≤◌}
use Rattle.image_map.specs.Rows.{sample_by}
use Rattle.image_map.proofs.RowLaws.{Stored}
use Rattle.image_map.proofs.showing.Showing.emit_row.Given as goal

-- `row.1.1.1.0` are the starts of the row
abbrev pub invariant-loop-p : goal.invariant-loop-p
invariant-loop-p l =
    (l.left ≤ l.p) × (l.p ≤ l.right) × Stored (sample_by l.lines l.row.1.1.1.0 l.xtrans) l.left l.p l.at l.initial.image l.image × (l.column ≡ l.p % 6)

abbrev pub decreases-loop-p : goal.decreases-loop-p
decreases-loop-p l = l.right - l.p
