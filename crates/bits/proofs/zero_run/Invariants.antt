-- `bits::zero_run` meets its contract. The invariant: no one bit from `at` up to `here`; the measure: the bytes from `from` on. Assumes nothing.
use mathlib.Core.Path.{◌≡◌}
use Prim.Native.Nat.{◌-◌, ◌/◌, ◌≤◌}
use lib.ListN.{length}
use Rattle.bits.specs.Bits.{bits_at}
use Rattle.bits.proofs.zero_run.Given as goal

abbrev pub invariant-loop-from : goal.invariant-loop-from
invariant-loop-from l = (l.at.0 ≤ l.here.0) × (l.from.0 ≡ l.here.0 / 8) × (bits_at l.s l.at.0 (l.here.0 - l.at.0) ≡ 0)

abbrev pub decreases-loop-from : goal.decreases-loop-from
decreases-loop-from l = length l.s - l.from.0
