-- Inside. What the line above gives of an odd position, and what is made of it once the samples beside it are known.
use Rattle.std.specs.Prelude.{cond, List, ◌≡◌, ℕ, ◌+◌, ◌-◌, ◌*◌, ◌≤◌, ◌<◌, min, get_or}
use Rattle.numbers.specs.Numbers.{flag}
use Rattle.numbers.specs.declared.Signed.{Signed}
use Rattle.quantiser.specs.Quantisers.{gradient_of}
use Rattle.prediction.specs.Predictions.{extreme}
use Rattle.code.specs.Samples.{choice_of}
use Rattle.pass_steps.specs.Contexts.{used_base, place_of}
use Rattle.pass_steps.specs.declared.Look.{Look}
use Rattle.pass_ahead.specs.Looks.{look_by, Part}
use Rattle.pass_ahead.specs.declared.Aim.{Aim}

-- rc, rb and rd of the sample after place i, in lines that are S apart
abbrev pub rc_at : List ℕ → ℕ → ℕ → ℕ
rc_at lines S i = get_or lines (i - S) 0

abbrev pub rb_at : List ℕ → ℕ → ℕ → ℕ
rb_at lines S i = get_or lines (i + 1 - S) 0

abbrev pub rd_at : List ℕ → ℕ → ℕ → ℕ
rd_at lines S i = get_or lines (i + 2 - S) 0

-- of the prediction: rb and 2 where it counts, else 0 and 1
abbrev pub Beyond : ℕ → ℕ → ℕ → ℕ → ℕ → Type 0
Beyond rb rc rd b t = (b ≡ cond (extreme rb rc rd) rb 0) × (t ≡ 1 + flag (extreme rb rc rd))

-- of the gradient, v being rb − rc: row 4 has its part by the main quantiser of a line with base q, rows 5 to 7 by flat ones, where v is small
pub record Parts (q : ℕ) (v : Signed) (l : List ℕ) (h : ℕ) : Type 0 where
  pub main : Part 9 q v (get_or l (192 + h) 0)
  pub flat : v.size ≤ 7 → (i : ℕ) → i < 3 → Part 3 i v (get_or l (240 + 48 * i + h) 0)

-- a lossless line has row 4 alone
pub record Upper (q : ℕ) (v : Signed) (l : List ℕ) (h : ℕ) : Type 0 where
  pub main : Part 9 q v (get_or l (192 + h) 0)
  pub flat : 1 ≤ q → v.size ≤ 7 → (i : ℕ) → i < 3 → Part 3 i v (get_or l (240 + 48 * i + h) 0)
  pub size : 1 ≤ q → get_or l (384 + h) 0 ≡ min 8 v.size

-- the gradient whose first part that is
abbrev pub Continued : ℕ → ℕ → Signed → Signed → Type 0
Continued used part u r = (weight : ℕ) (v : Signed) → Part weight used v part → r ≡ gradient_of used weight v u

-- the slot, from `first` on, and the sign of the gradient whose first part that is
abbrev pub Aimed : ℕ → ℕ → ℕ → Signed → Aim → Type 0
Aimed used part first u r =
    (weight : ℕ) (v : Signed) → Part weight used v part
    → (r.slot ≡ first + (gradient_of used weight v u).size) × (r.flip ≡ flag (gradient_of used weight v u).negative)

-- the slot of an odd position and the sign of its gradient are those of a look
abbrev pub AimsAt : Look → Aim → Type 0
AimsAt h r = (r.slot ≡ h.place + 56) × (r.flip ≡ flag h.negative)

-- the look of an odd position whose second difference is u, in a line that is not lossless
abbrev pub LossyAims : ℕ → List ℕ → ℕ → ℕ → Signed → Aim → Type 0
LossyAims q l h size u r = (v : Signed) → Parts q v l h → size ≡ min 8 v.size → AimsAt (look_by q v u) r

-- what a flatness decides, 8 at most: where its row of the parts begins, the first of the quantiser's records, and its base
pub record ByFlatness (q : ℕ) (l : List ℕ) : Type 0 where
  pub row : (j : ℕ) → j ≤ 8 → get_or l j 0 ≡ 192 + 48 * choice_of q j
  pub first : (j : ℕ) → j ≤ 8 → get_or l (9 + j) 0 ≡ 56 + place_of (choice_of q j) 0
  pub base : (j : ℕ) → j ≤ 8 → get_or l (18 + j) 0 ≡ used_base q (choice_of q j)
