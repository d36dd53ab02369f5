-- Inside. What only our own functions say.
use Rattle.std.specs.Prelude.{◌≡◌, ℕ, ◌+◌, ◌*◌, ◌^◌, ◌≤◌, ◌<◌, leb}
use Rattle.quantiser.specs.declared.Quantiser.{Quantiser}
use Rattle.quantiser.specs.declared.Thresholds.{Thresholds}

-- the ranges of a quantiser's numbers
pub record QuantiserRanges (Q : Quantiser) : Type 0 where
  pub base : Q.base < 256
  pub weight : Q.weight ≤ 9
  pub total : Q.total ≤ 2 ^ 16
  pub raw : Q.raw ≤ 16
  pub limit : Q.limit < 64

-- the thresholds of base q: q, 3q + 18, 5q + 67, 7q + 276
abbrev pub thresholds_of : ℕ → Thresholds
thresholds_of q = record { base = q; second = 3 * q + 18; third = 5 * q + 67; fourth = 7 * q + 276 }

-- thresholds serve a difference of size m if it has reached the second, the third and the fourth just where it has reached those of their base, and none
-- of these is 0
abbrev pub Serves : Thresholds → ℕ → Type 0
Serves t m =
    (leb t.second m ≡ leb (3 * t.base + 18) m) × (leb t.third m ≡ leb (5 * t.base + 67) m) × (leb t.fourth m ≡ leb (7 * t.base + 276) m)
    × (1 ≤ t.second) × (1 ≤ t.third) × (1 ≤ t.fourth)
