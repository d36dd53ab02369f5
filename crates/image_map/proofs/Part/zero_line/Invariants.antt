-- `image_map::Part::zero_line` meets its contract: the line's first r rows are 0. Assumes nothing.
use Prim.Native.Nat.{◌+◌, ◌*◌}
use Rattle.image_map.specs.Rows.{RowsPut}
use Rattle.image_map.proofs.Part.zero_line.Given as goal

abbrev pub invariant-loop-r : goal.invariant-loop-r
invariant-loop-r l = RowsPut (λ i. 0) l.self (6 * l.n) (6 * l.n + l.r) l.initial.image l.image
