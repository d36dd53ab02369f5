-- `image_map::Showing::emit_colour` meets its contract: the cells before k are done. Assumes nothing.
use Rattle.image_map.specs.Places.{width_of}
use Rattle.image_map.specs.Windows.{CellsEmitted}
use Rattle.image_map.proofs.showing.Showing.emit_colour.Given as goal

abbrev pub invariant-loop-k : goal.invariant-loop-k
invariant-loop-k l = CellsEmitted l.self.xtrans (width_of l.self.xtrans) l.self.tile l.lines l.self.part l.n l.k l.l l.slot l.initial.image l.image
