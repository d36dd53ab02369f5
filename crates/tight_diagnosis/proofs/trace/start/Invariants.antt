-- `tight_diagnosis::trace::start` meets its contract: the records before j have started. Assumes nothing.
use mathlib.Core.Path.{◌≡◌}
use lib.ListN.{length, take}
use Rattle.pass_steps.specs.Values.{zip_records}
use Rattle.read_block.specs.Records.{table, start_record}
use Rattle.tight_diagnosis.proofs.trace.start.Given as goal

abbrev pub invariant-loop-j : goal.invariant-loop-j
invariant-loop-j l =
    ((length l.sums ≡ 336) × (length l.ns ≡ 336)) × (take l.j (zip_records l.sums l.ns) ≡ table (start_record l.bits 0) l.j)
