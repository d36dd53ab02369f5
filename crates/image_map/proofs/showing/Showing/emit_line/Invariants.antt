-- `image_map::Showing::emit_line` meets its contract. The invariant: the line's first r rows are put into the image. Assumes nothing.
use Prim.Native.Nat.{◌+◌, ◌*◌}
use Rattle.image_map.specs.Places.{width_of}
use Rattle.image_map.specs.Inside.{emitted_sample}
use Rattle.image_map.specs.Rows.{RowsPut}
use Rattle.image_map.proofs.showing.Showing.emit_line.Given as goal

abbrev pub invariant-loop-r : goal.invariant-loop-r
invariant-loop-r l =
    RowsPut (emitted_sample l.self.xtrans (width_of l.self.xtrans) l.self.tile l.lines l.self.part) l.self.part (6 * l.n) (6 * l.n + l.r) l.initial.image l.image
