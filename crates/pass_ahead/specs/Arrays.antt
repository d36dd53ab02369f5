-- Inside. What is known ahead of a line, in arrays: h counts the turns of a pass.
use Rattle.std.specs.Prelude.{cond, List, ◌≡◌, ℕ, zero, suc, ◌+◌, ◌-◌, ◌*◌, ◌≤◌, ◌<◌, min, length, get_or}
use Rattle.numbers.specs.Numbers.{distance, minus, flag}
use Rattle.prediction.specs.Predictions.{even_prediction, even_context, extreme}
use Rattle.pass_steps.specs.Contexts.{look_of}
use Rattle.pass_steps.specs.Values.{even_at}
use Rattle.pass_ahead.specs.Looks.{packed_look, Part}
use Rattle.pass_ahead.specs.Odds.{rc_at, rb_at, rd_at, Beyond, Upper}

-- each entry before n, at its place, is as it should be
abbrev pub Each : (ℕ → ℕ) → (ℕ → ℕ → Type 0) → ℕ → List ℕ → Type 0
Each place P n l = (h : ℕ) → h < n → P h (get_or l (place h) 0)

abbrev pub here : ℕ → ℕ
here h = h

-- an array of that size whose first n entries are as they should be
pub record Filled (size : ℕ) (P : ℕ → ℕ → Type 0) (n : ℕ) (l : List ℕ) : Type 0 where
  pub all : length l ≡ size
  pub each : Each here P n l

-- every second entry of a list, and the one after it
abbrev pub Second : List ℕ → ℕ → ℕ → ℕ → Type 0
Second lines from h v = v ≡ get_or lines (from + 2 * h) 0

abbrev pub After : List ℕ → ℕ → ℕ → ℕ → Type 0
After lines from h v = v ≡ get_or lines (from + 2 * h + 1) 0

-- ---- even positions: `odds` and `evens` are the samples of the line above, from 8 places before the first on, and `tops` those of the line above that

abbrev pub PredictionAhead : List ℕ → List ℕ → List ℕ → ℕ → ℕ → Type 0
PredictionAhead odds evens tops h v = v ≡ even_prediction (get_or tops h 0) (get_or odds (h + 4) 0) (get_or evens (h + 4) 0) (get_or odds (h + 5) 0)

abbrev pub LookAhead : ℕ → List ℕ → List ℕ → List ℕ → ℕ → ℕ → Type 0
LookAhead q odds evens tops h v = v ≡ packed_look (look_of q (even_context (get_or tops h 0) (get_or odds (h + 4) 0) (get_or evens (h + 4) 0) (get_or odds (h + 5) 0)))

-- ---- odd positions, 7 places before

abbrev pub BeyondAhead : List ℕ → List ℕ → ℕ → ℕ → Type 0
BeyondAhead odds evens h v = v ≡ cond (extreme (get_or odds (h + 1) 0) (get_or evens h 0) (get_or evens (h + 1) 0)) (get_or odds (h + 1) 0) 0

abbrev pub HalvingAhead : List ℕ → List ℕ → ℕ → ℕ → Type 0
HalvingAhead odds evens h v = v ≡ 1 + flag (extreme (get_or odds (h + 1) 0) (get_or evens h 0) (get_or evens (h + 1) 0))

abbrev pub MainAhead : ℕ → List ℕ → List ℕ → ℕ → ℕ → Type 0
MainAhead q odds evens h v = Part 9 q (minus (get_or odds (h + 1) 0) (get_or evens h 0)) v

abbrev pub FlatAhead : ℕ → List ℕ → List ℕ → ℕ → ℕ → Type 0
FlatAhead i odds evens h v = distance (get_or odds (h + 1) 0) (get_or evens h 0) ≤ 7 → Part 3 i (minus (get_or odds (h + 1) 0) (get_or evens h 0)) v

abbrev pub SizeAhead : List ℕ → List ℕ → ℕ → ℕ → Type 0
SizeAhead odds evens h v = v ≡ min 8 (distance (get_or odds (h + 1) 0) (get_or evens h 0))

-- ---- the rows, of 48 entries each

-- what row r has at h; a lossless line has rows 0 to 4 alone
abbrev pub AheadRow : ℕ → List ℕ → List ℕ → List ℕ → ℕ → ℕ → ℕ → Type 0
AheadRow q odds evens tops zero h v = PredictionAhead odds evens tops h v
AheadRow q odds evens tops (suc zero) h v = LookAhead q odds evens tops h v
AheadRow q odds evens tops (suc (suc zero)) h v = BeyondAhead odds evens h v
AheadRow q odds evens tops (suc (suc (suc zero))) h v = HalvingAhead odds evens h v
AheadRow q odds evens tops (suc (suc (suc (suc zero)))) h v = MainAhead q odds evens h v
AheadRow q odds evens tops (suc (suc (suc (suc (suc zero))))) h v = FlatAhead 0 odds evens h v
AheadRow q odds evens tops (suc (suc (suc (suc (suc (suc zero)))))) h v = FlatAhead 1 odds evens h v
AheadRow q odds evens tops (suc (suc (suc (suc (suc (suc (suc zero))))))) h v = FlatAhead 2 odds evens h v
AheadRow q odds evens tops (suc (suc (suc (suc (suc (suc (suc (suc r)))))))) h v = SizeAhead odds evens h v

-- the first n entries of each row are as they should be
pub record Rows (P : ℕ → ℕ → ℕ → Type 0) (rows n : ℕ) (l : List ℕ) : Type 0 where
  pub all : length l ≡ 432
  pub each : (r h : ℕ) → r < rows → h < n → P r h (get_or l (48 * r + h) 0)

-- ---- among the lines of W samples

-- the place before that of position p
abbrev pub left_at : ℕ → ℕ → ℕ → ℕ
left_at W line p = line * (W + 2) + p

-- entry h is that of the even position p of a line with base q, and that of the odd one
pub record EvenHere (q W : ℕ) (lines : List ℕ) (line p h : ℕ) (l : List ℕ) : Type 0 where
  pub prediction : get_or l h 0 ≡ (even_at lines (W + 2) (left_at W line p)).prediction
  pub look : get_or l (48 + h) 0 ≡ packed_look (look_of q (even_at lines (W + 2) (left_at W line p)))

pub record OddHere (q W : ℕ) (lines : List ℕ) (line p h : ℕ) (l : List ℕ) : Type 0 where
  pub prediction : let i = left_at W line p in
      Beyond (rb_at lines (W + 2) i) (rc_at lines (W + 2) i) (rd_at lines (W + 2) i) (get_or l (96 + h) 0) (get_or l (144 + h) 0)
  pub gradient : let i = left_at W line p in Upper q (minus (rb_at lines (W + 2) i) (rc_at lines (W + 2) i)) l h

-- n turns of a pass, from position c on
pub record Ahead (q W : ℕ) (lines : List ℕ) (line c n : ℕ) (l : List ℕ) : Type 0 where
  pub evens : (h : ℕ) → h < n → c + 2 * h < W → EvenHere q W lines line (c + 2 * h) h l
  pub odds : (h : ℕ) → h < n → 8 ≤ c + 2 * h → OddHere q W lines line (c + 2 * h - 7) h l
