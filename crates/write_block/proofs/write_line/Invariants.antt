-- `write_block::write_line` meets its contract: i passes have been written. Assumes nothing.
use mathlib.Core.Path.{◌≡◌}
use Prim.Native.Nat.{◌+◌, ◌*◌, ◌%◌, ◌≤◌}
use lib.ListN.{length}
use Rattle.image_map.specs.Places.{width_of}
use Rattle.read_block.specs.Walks.{AllInRange}
use Rattle.write_block.specs.WriterParts.{passes_from}
use Rattle.write_block.proofs.WalkLaws.{Sofar}
use Rattle.write_block.proofs.write_line.Given as goal

abbrev pub invariant-loop-i : goal.invariant-loop-i
invariant-loop-i l =
    ((l.w ≡ width_of l.xtrans) × (8 ≤ l.w) × (l.w ≤ 512) × (l.w % 2 ≡ 0)) × (length l.lines ≡ 18 * (l.w + 2)) × (length l.rs ≡ 336) × AllInRange l.rs
    × (length l.out ≡ length l.initial.out)
    × Sofar (passes_from (record { bits = l.bits; xtrans = l.xtrans }) l.qs.base l.strict l.samples l.n l.i l.initial.lines l.initial.rs) l.initial.at.0 l.store l.initial.out l.lines l.rs l.out l.at
