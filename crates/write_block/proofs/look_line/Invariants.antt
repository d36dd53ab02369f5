-- `write_block::look_line` meets its contract: i passes were right. Assumes nothing.
use mathlib.Core.Path.{◌≡◌}
use Prim.Native.Nat.{◌+◌, ◌*◌, ◌%◌, ◌≤◌}
use lib.ListN.{length}
use Rattle.image_map.specs.Places.{width_of}
use Rattle.write_block.specs.WriterParts.{RightPasses}
use Rattle.write_block.proofs.look_line.Given as goal

abbrev pub invariant-loop-i : goal.invariant-loop-i
invariant-loop-i l =
    ((l.w ≡ width_of l.xtrans) × (8 ≤ l.w) × (l.w ≤ 512) × (l.w % 2 ≡ 0)) × (length l.lines ≡ 18 * (l.w + 2))
    × RightPasses (record { bits = l.bits; xtrans = l.xtrans }) l.samples l.n l.i l.initial.lines l.lines
