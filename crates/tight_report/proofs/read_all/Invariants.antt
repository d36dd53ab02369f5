-- `tight_report::read_all`: what its loop keeps, and why it ends.
use Rattle.std.specs.Prelude.{length, ◌-◌, ◌≤◌, ◌≡◌}
use Rattle.tight_report.proofs.read_all.Given as goal

abbrev pub invariant-loop-done : goal.invariant-loop-done
invariant-loop-done g l = (l.done ≤ length l.buf) × (length l.buf ≡ length l.initial.buf)

abbrev pub decreases-loop-done : goal.decreases-loop-done
decreases-loop-done g l = length l.initial.buf - l.done
