-- `write_block::look_lines` meets its contract: n lines were right. Assumes nothing.
use mathlib.Core.Path.{◌≡◌}
use Prim.Native.Nat.{◌+◌, ◌*◌, ◌≤◌}
use lib.ListN.{length}
use Rattle.image_map.specs.Places.{width_of}
use Rattle.write_block.proofs.LookLaws.{RightLines}
use Rattle.write_block.proofs.look_lines.Given as goal

abbrev pub invariant-loop-n : goal.invariant-loop-n
invariant-loop-n l =
    ((l.w ≡ width_of l.form.xtrans) × (l.w ≤ 512)) × (length l.lines ≡ 18 * (l.w + 2)) × RightLines l.form l.samples l.n l.lines
