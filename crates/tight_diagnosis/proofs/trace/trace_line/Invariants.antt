-- `tight_diagnosis::trace::trace_line` meets its contract: i passes have been walked, with tight codes alone. Assumes nothing.
use mathlib.Core.Path.{◌≡◌}
use Prim.Native.Nat.{◌+◌, ◌*◌, ◌%◌, ◌≤◌}
use lib.ListN.{length}
use Rattle.image_map.specs.Places.{width_of}
use Rattle.pass_steps.specs.Values.{zip_records}
use Rattle.read_block.specs.Walks.{AllInRange}
use Rattle.tight_diagnosis.specs.Ways.{on, passes_way}
use Rattle.tight_diagnosis.specs.Traces.{clean_state}
use Rattle.tight_diagnosis.proofs.trace.trace_line.Given as goal

abbrev pub invariant-loop-i : goal.invariant-loop-i
invariant-loop-i l =
    ((l.w ≡ width_of l.xtrans) × (8 ≤ l.w) × (l.w ≤ 512) × (l.w % 2 ≡ 0)) × ((length l.lines ≡ 18 * (l.w + 2)) × (length l.sums ≡ 336) × (length l.ns ≡ 336))
    × AllInRange (zip_records l.sums l.ns)
    × (passes_way (record { bits = l.bits; xtrans = l.xtrans }) l.block l.n l.i (clean_state l.initial.lines l.initial.sums l.initial.ns l.initial.at) ≡ on (clean_state l.lines l.sums l.ns l.at))
