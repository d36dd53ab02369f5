-- `image_map::RowSamples::emit_sample` meets its contract. Assumes nothing.
use mathlib.Core.Path.{ap}
use lib.ListN.{set, length-set}
use native.Mathlib.Omega.{arith}
use Rattle.image_map.proofs.row_samples.RowSamples.emit_sample.Goals as goal

pub returns : goal.returns
returns c =
    (ap (set c.args.image.now c.args.i) c.sample_at.ensures, length-set c.args.image.now c.args.i c.sample_at.result)

pub offset_bounds-image-i : goal.offset_bounds-image-i
offset_bounds-image-i c = omega (arith, c.requires)

pub bounds-image-i : goal.bounds-image-i
bounds-image-i c = omega
    (arith, c.requires)
