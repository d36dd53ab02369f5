-- Promises. Item 5: the lossy writer picks the residual whose step comes nearest the sample, and brings it into the code values by adding or taking away
-- total. Over all bases and depths. Assumes nothing.
use Rattle.std.specs.Prelude.{Bool, cond, ◌⊎◌, ◌≡◌, ℕ, ◌+◌, ◌*◌, ◌≤◌, ◌<◌}
use Rattle.numbers.specs.Numbers.{distance, up, down}
use Rattle.numbers.specs.declared.Signed.{Signed}
use Rattle.quantiser.specs.Quantisers.{largest, total_of}
use Rattle.code.specs.Samples.{residual_of}
use Rattle.code.specs.Nearest.{nearest, turned_by, code_near}

-- ---- nearest

-- how far from the sample v it is where a residual leads from the prediction g, in steps of 2q + 1
abbrev pub missed_by : (q g v : ℕ) → Signed → ℕ
missed_by q g v r = cond r.negative (distance g (v + r.size * (2 * q + 1))) (distance (g + r.size * (2 * q + 1)) v)

-- two residuals are the same number: 0 has no sign
abbrev pub IsSame : (a b : Signed) → Type 0
IsSame a b = (up a ≡ up b) × (down a ≡ down b)

-- every other residual misses the sample by more: no two are equally near
abbrev pub NearestSteps : Type 0
NearestSteps = (q g v : ℕ) (other : Signed) → (IsSame other (nearest q g v) → ⊥) → missed_by q g v (nearest q g v) < missed_by q g v other

-- ---- by adding or taking away total

-- a is n more than b
abbrev pub IsMore : (n : ℕ) (a b : Signed) → Type 0
IsMore n a b = up a + down b ≡ up b + down a + n

-- the code is one of the total code values, and its residual is r, r + total or r − total
pub record BroughtWithin (total : ℕ) (r : Signed) (code : ℕ) : Type 0 where
  pub within : code < total
  pub brought : IsSame (residual_of code) r ⊎ (IsMore total (residual_of code) r ⊎ IsMore total r (residual_of code))

-- the code that is written for the sample v at the prediction g, under a gradient with that sign and a quantiser with base q
abbrev pub CodesWithin : Type 0
CodesWithin =
    (bits q g v : ℕ) (negative : Bool) → g ≤ largest bits → v ≤ largest bits
    → BroughtWithin (total_of bits q) (turned_by negative (nearest q g v)) (code_near q (total_of bits q) negative g v)
