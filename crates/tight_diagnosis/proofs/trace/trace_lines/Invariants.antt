-- `tight_diagnosis::trace::trace_lines` meets its contract: n lines have been walked, with tight codes alone. Assumes nothing.
use mathlib.Core.Path.{◌≡◌}
use Prim.Native.Nat.{◌+◌, ◌*◌, ◌≤◌}
use lib.ListN.{length}
use Rattle.image_map.specs.Places.{width_of}
use Rattle.pass_steps.specs.Values.{zip_records}
use Rattle.read_block.specs.Records.{start_records}
use Rattle.read_block.specs.Walks.{AllInRange}
use Rattle.tight_diagnosis.specs.Ways.{on, block_way}
use Rattle.tight_diagnosis.specs.Traces.{clean_state}
use Rattle.tight_diagnosis.proofs.trace.trace_lines.Given as goal

abbrev pub invariant-loop-n : goal.invariant-loop-n
invariant-loop-n l =
    ((l.w ≡ width_of l.form.xtrans) × (l.w ≤ 512)) × ((length l.lines ≡ 18 * (l.w + 2)) × (length l.sums ≡ 336) × (length l.ns ≡ 336))
    × AllInRange (zip_records l.sums l.ns) × (l.n ≡ 0 → zip_records l.sums l.ns ≡ start_records l.form.bits 0) × (block_way l.form l.block l.n ≡ on (clean_state l.lines l.sums l.ns l.at))
