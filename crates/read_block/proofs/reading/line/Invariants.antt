-- `read_block::reading::line` meets its contract: i passes have been read. Assumes nothing.
use mathlib.Core.List.{List}
use mathlib.Core.Path.{◌≡◌}
use Prim.Native.Nat.{ℕ, ◌+◌, ◌*◌, ◌%◌, ◌≤◌}
use lib.ListN.{length}
use Rattle.image_map.specs.Places.{width_of}
use Rattle.image_map.specs.Inside.{Fits}
use Rattle.read_block.specs.Walks.{AllInRange, state_at}
use Rattle.read_block.specs.WindowedLines.{samples_in, Held, OnlyLine}
use Rattle.read_block.proofs.LineLaws.{SoFar}
use Rattle.read_block.proofs.reading.line.Given as goal

abbrev pub invariant-loop-i : goal.invariant-loop-i
invariant-loop-i l =
    ((l.w ≡ width_of l.xtrans) × (8 ≤ l.w) × (l.w ≤ 512) × (l.w % 2 ≡ 0)) × (length l.lines ≡ samples_in l.windowed l.xtrans) × (length l.rs ≡ 336) × AllInRange l.rs
    × (l.place.long ≤ l.place.at.0) × (Fits l.showing.part l.image × OnlyLine l.windowed l.showing.part l.n l.initial.image l.image)
    × ((ls : List ℕ) → length ls ≡ 18 * (l.w + 2) → Held l.windowed l.w 0 ls l.initial.lines
    → SoFar l.windowed (record { bits = l.bits; xtrans = l.xtrans }) l.qs.base l.w l.block l.showing.tile l.showing.part l.n l.i (state_at ls l.initial.rs l.initial.place) l.lines l.rs l.place l.image)
