-- `image_map::Showing::emit_colour` meets its contract: the cells before k are done. Assumes nothing.
use Rattle.std.proofs.Common.{◌≡◌, arith}
use Rattle.image_map.proofs.WindowLaws.{cells_all}
use Rattle.image_map.proofs.showing.Showing.emit_colour.Goals as goal

pub returns : goal.returns
returns c =
    let e : c.loop-k.k ≡ 36 = omega arith in
    cells_all _ _ _ _ _ _ _ _ _ _ (rw e at c.loop-k.invariant)
