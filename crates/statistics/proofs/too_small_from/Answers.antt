-- `statistics::too_small_from` meets its contract. The invariant: what the search from j on still adds to j, and the numbers counted so far, make up what the search
-- from k on adds to k. Assumes nothing.
use Rattle.numbers.proofs.FlagLaws.{flag_of}
use Rattle.numbers.proofs.OrderLaws.{cond_le}
use borrow.Author.Rules.{rules}
use mathlib.Core.Bool.{Bool, not}
use mathlib.Core.Path.{◌≡◌, sym, ◌∙◌}
use Prim.Native.Nat.{ℕ, ◌+◌, ◌-◌, ◌≤◌, ◌<◌}
use native.Mathlib.Omega.{arith}
use Rattle.numbers.specs.Numbers.{flag}
use Rattle.numbers.proofs.BoolLaws.{both}
use Rattle.numbers.proofs.LeastLaws.{least, least_last, least_here}
use Rattle.statistics.specs.Statistics.{enough}
use Rattle.statistics.proofs.RecordLaws.{too_small}
use Rattle.statistics.proofs.too_small_from.Invariants.{from, Counted}
use Rattle.statistics.proofs.too_small_from.Goals as goal

-- the search ends where j is enough, or where none is left
ends : (sum n k count j : ℕ) → Counted sum n k count j → j ≤ 15 → from sum n j ≡ j → (count + k ≡ from sum n k) × (count + k ≤ 15)
ends sum n k count j inv le e = (omega (arith, inv.1), omega (arith, inv.0))

-- one number more is counted where it is too small
next : (sum n k count j f : ℕ) (b : Bool) → Counted sum n k count j → j < 15 → b ≡ enough sum n j → f ≡ flag (not b)
    → Counted sum n k (count + f) (j + 1)
next sum n k count j f b inv lt e g =
    let r : ℕ = from sum n (j + 1) - (j + 1) in
    let low : j + 1 ≤ from sum n (j + 1) = (least (15 - (j + 1)) (enough sum n) (j + 1)).low in
    let is : f + r + j ≡ from sum n j = rw g (too_small sum n j r b (sym e) lt (omega arith)) in
    (omega (arith, inv.0, g, flag_le (not b)), omega (arith, inv.1))
  where
    flag_le : (t : Bool) → flag t ≤ 1
    flag_le t = cond_le 1 t 1 0 (omega arith) (omega arith)

pub returns-then-enough-j : goal.returns-then-enough-j
returns-then-enough-j c =
    ends _ _ _ _ _ c.loop-j.invariant (omega arith) (least_here _ _ _ (sym c.is_enough-enough.ensures ∙ (both c.is_enough-enough.result _ c.if-enough-j.true).0))

pub loop-j-preserved : goal.loop-j-preserved
loop-j-preserved c = next _ _ _ _ _ _ _ c.loop-j.invariant (search rules) c.is_enough-enough.ensures (c.from-count.ensures ∙ flag_of _)

pub returns : goal.returns
returns c = ends _ _ _ _ _ c.loop-j.invariant (c.loop-j.auto.j-end c.requires.0) (least_last _ _ _ (omega arith))
