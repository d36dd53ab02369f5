-- `image_map::Part::zero_line` meets its contract: the line's first r rows are 0. Assumes nothing.
use Rattle.std.proofs.Common.{◌≡◌, ◌+◌, ◌*◌, arith}
use Rattle.image_map.proofs.PartLaws.{put_none, put_join}
use Rattle.image_map.proofs.Part.zero_line.Goals as goal

pub loop-r-init : goal.loop-r-init
loop-r-init c = put_none _ _ _ _ _ (λ i h. omega (arith, h.first, h.last))

pub loop-r-preserved : goal.loop-r-preserved
loop-r-preserved c =
    let e : 6 * c.args.n + (c.loop-r.r + 1) ≡ 6 * c.args.n + c.loop-r.r + 1 = omega arith in
    rw e (put_join _ _ _ _ _ _ _ _ (omega arith) (omega arith) c.loop-r.invariant c.zero_row.ensures)
