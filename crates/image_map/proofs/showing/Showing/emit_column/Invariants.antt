-- `image_map::Showing::emit_column` meets its contract. The invariant: the columns before p that stand in column c of the tile are stored; the measure:
-- the columns left. Assumes nothing.
use mathlib.Core.Bool.{◌&&◌}
use mathlib.Core.Path.{◌≡◌}
use Prim.Native.Nat.{◌+◌, ◌-◌, ◌%◌, ◌≤◌, ◌<◌}
use lib.Dec.{leb, ltb, eqb}
use lib.ListN.{get_or}
use Rattle.image_map.specs.Places.{place_in, Changed}
use Rattle.image_map.proofs.showing.Showing.emit_column.Given as goal

abbrev pub invariant-loop-p : goal.invariant-loop-p
invariant-loop-p l =
    (l.p % 6 ≡ l.c) × (l.left ≤ l.p) × (l.p < l.right + 6)
    × Changed (λ i. leb l.at i && ltb i (l.at + (l.p - l.left)) && eqb ((l.left + (i - l.at)) % 6) l.c)
    (λ i. get_or l.lines (l.start + place_in l.self.xtrans (l.left + (i - l.at))) 0) l.initial.image l.image

abbrev pub decreases-loop-p : goal.decreases-loop-p
decreases-loop-p l = l.right + 6 - l.p
