-- `base_plan::records::write_bases` meets its contract: the bases of the first m records are written. All records are good, so that none is refused. Assumes nothing.
use Rattle.std.proofs.Common.{◌≡◌, ◌≤◌, length}
use Rattle.base_plan.specs.Records.{start_of}
use Rattle.base_plan.specs.Readings.{Written}
use Rattle.base_plan.proofs.records.write_bases.Given as goal

abbrev pub invariant-loop : goal.invariant-loop
invariant-loop l =
    (l.at ≡ start_of l.d l.counter) × (l.at ≤ length l.d) × Written l.d l.counter l.initial.bases l.bases
