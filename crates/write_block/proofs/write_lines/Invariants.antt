-- `write_block::write_lines` meets its contract: n lines have been written. Assumes nothing.
use mathlib.Core.Path.{◌≡◌}
use Prim.Native.Nat.{◌+◌, ◌*◌, ◌≤◌}
use lib.ListN.{length}
use Rattle.image_map.specs.Places.{width_of}
use Rattle.read_block.specs.Walks.{AllInRange}
use Rattle.write_block.specs.WrittenBlocks.{write_lines}
use Rattle.write_block.proofs.WalkLaws.{Sofar}
use Rattle.write_block.proofs.write_lines.Given as goal

abbrev pub invariant-loop-n : goal.invariant-loop-n
invariant-loop-n l =
    ((l.w ≡ width_of l.form.xtrans) × (l.w ≤ 512)) × (length l.lines ≡ 18 * (l.w + 2)) × (length l.rs ≡ 336) × AllInRange l.rs
    × (length l.out ≡ length l.initial.out) × Sofar (write_lines l.form l.bases l.samples l.n) 0 l.store l.initial.out l.lines l.rs l.out l.at
