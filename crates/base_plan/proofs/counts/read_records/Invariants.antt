-- `base_plan::counts::read_records` meets its contract. The invariant: the records before `at` are good and counted, and the search from there on gives what the
-- search from the start on gives; the measure: the text that is left. Assumes nothing.
use mathlib.Core.Path.{◌≡◌}
use Prim.Native.Nat.{◌-◌, ◌≤◌}
use lib.ListN.{length}
use Rattle.base_plan.specs.Records.{start_of, good_records}
use Rattle.base_plan.specs.Inside.{Marked}
use Rattle.base_plan.proofs.RecordLaws.{good_from}
use Rattle.base_plan.proofs.counts.read_records.Given as goal

abbrev pub invariant-loop-at : goal.invariant-loop-at
invariant-loop-at l =
    (l.at ≡ start_of l.d l.records) × (l.at ≤ length l.d) × (l.records ≤ l.at) × (good_records l.d l.lines ≡ good_from l.d l.lines l.records) × Marked l.d l.records l.begins l.ends

abbrev pub decreases-loop-at : goal.decreases-loop-at
decreases-loop-at l = length l.d - l.at
