-- `tight_diagnosis::trace::trace_pass` meets its contract: the samples before number u have been walked, with tight codes alone. Assumes nothing.
use mathlib.Core.Path.{◌≡◌}
use Prim.Native.Nat.{◌+◌, ◌*◌, ◌/◌}
use lib.ListN.{length}
use Rattle.pass_schedule.specs.Steps.{upto}
use Rattle.pass_steps.specs.Values.{zip_records, SetInRange}
use Rattle.tight_diagnosis.specs.Ways.{on, steps_way}
use Rattle.tight_diagnosis.specs.Traces.{clean}
use Rattle.tight_diagnosis.proofs.DueLaws.{quarter}
use Rattle.tight_diagnosis.proofs.trace.trace_pass.Given as goal

abbrev pub invariant-loop-u : goal.invariant-loop-u
invariant-loop-u l =
    ((l.w ≡ l.stage.w) × (l.end ≡ 4 * (l.stage.w / 2 + 4))) × ((length l.lines ≡ length l.initial.lines) × (length l.sums ≡ 112) × (length l.ns ≡ 112))
    × SetInRange (zip_records l.sums l.ns)
    × (steps_way l.stage l.block (upto (quarter l.stage.w l.plan) l.u) (clean l.initial.lines l.initial.sums l.initial.ns l.initial.at) ≡ on (clean l.lines l.sums l.ns l.at))
