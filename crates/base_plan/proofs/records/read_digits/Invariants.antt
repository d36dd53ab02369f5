-- `base_plan::records::read_digits` meets its contract. The invariant: n digits are read, and the search from the n-th on gives what the search from the first
-- on gives. Assumes nothing.
use mathlib.Core.Path.{◌≡◌}
use Prim.Native.Nat.{◌+◌, ◌^◌, ◌≤◌, ◌<◌}
use lib.ListN.{length}
use Rattle.base_plan.specs.Records.{digits_at, decimal}
use Rattle.base_plan.proofs.DigitLaws.{digits_from}
use Rattle.base_plan.proofs.records.read_digits.Given as goal

abbrev pub invariant-loop-n : goal.invariant-loop-n
invariant-loop-n l =
    (l.i + l.n ≤ length l.d) × (l.number ≡ decimal l.d l.i l.n) × (l.number < 10 ^ l.n) × (digits_at l.d l.i ≡ digits_from l.d l.i l.n)
