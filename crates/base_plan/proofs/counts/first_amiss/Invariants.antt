-- `base_plan::counts::first_amiss` meets its contract. The invariant: as many are held as have begun and not ended before n, and the search from n on gives
-- what the search from 0 on gives. Assumes nothing.
use mathlib.Core.Bool.{Bool}
use mathlib.Core.List.{List}
use mathlib.Core.Path.{◌≡◌}
use Prim.Native.Nat.{ℕ, ◌+◌, ◌-◌}
use Rattle.numbers.specs.Numbers.{least_from}
use Rattle.base_plan.specs.Counts.{is_amiss}
use Rattle.base_plan.specs.Inside.{sum_before, amiss_in}
use Rattle.base_plan.proofs.counts.first_amiss.Given as goal

-- the search from n on
abbrev pub amissFrom : Bool → List ℕ → List ℕ → ℕ → ℕ → ℕ
amissFrom twice begins ends lines n = least_from (lines - n) (λ i. is_amiss twice (sum_before begins (i + 1) - sum_before ends (i + 1))) n

abbrev pub invariant-loop-n : goal.invariant-loop-n
invariant-loop-n l =
    (l.held + sum_before l.ends l.n ≡ sum_before l.begins l.n) × (amiss_in l.twice l.begins l.ends l.lines ≡ amissFrom l.twice l.begins l.ends l.lines l.n)
