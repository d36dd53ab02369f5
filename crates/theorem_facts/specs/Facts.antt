-- Promises. What document 01 says of its own rules, fact by fact. Assumes nothing.
use Rattle.std.specs.Prelude.{Bool, true, false, cond, not, List, [], ◌∷◌, ◌++◌, ◌≡◌, ℕ, zero, suc, ◌+◌, ◌-◌, ◌*◌, ◌/◌, ◌%◌, ◌^◌, ◌≤◌, ◌<◌, max, leb, ltb, eqb, Some}
use Rattle.numbers.specs.declared.Signed.{Signed}
use Rattle.statistics.specs.Statistics.{k_of, updated, largest_residual}
use Rattle.statistics.specs.declared.Record.{Record}
use Rattle.quantiser.specs.Quantisers.{quantiser_of, flat_of, start_sum, level_size, gradient_of}
use Rattle.quantiser.specs.declared.Quantiser.{Quantiser}
use Rattle.prediction.specs.Predictions.{flatness_of}
use Rattle.prediction.specs.declared.Context.{Context}
use Rattle.code.specs.Codes.{code_at}
use Rattle.code.specs.Samples.{choice_of, residual_of}
use Rattle.code.specs.declared.Code.{Code}
use Rattle.pass_schedule.specs.Steps.{plan_of, is_interpolated, Step, even_steps, odd_steps, upto, pass_steps}
use Rattle.pass_schedule.specs.declared.Plan.{Plan}

-- ---- statistics

-- k is the least number with n·2^k ≥ max(sum, 1), capped at 15
pub record LeastK (t : Record) (k : ℕ) : Type 0 where
  pub capped : k ≤ 15
  pub least : (j : ℕ) → j < k → t.n * 2 ^ j < max t.sum 1
  pub enough : k < 15 → max t.sum 1 ≤ t.n * 2 ^ k

-- a record as it starts, and after residuals of these sizes
abbrev pub started : Quantiser → Record
started Q = record { sum = start_sum Q; n = 1 }

unfoldable pub updated_by : (sizes : List ℕ) → Record → Record
updated_by [] t = t
updated_by (r ∷ sizes) t = updated_by sizes (updated t r)

-- each is at most m
unfoldable pub AtMost : (m : ℕ) → List ℕ → Type 0
AtMost m [] = Unit {0}
AtMost m (r ∷ sizes) = (r ≤ m) × AtMost m sizes

-- ---- quantisers

-- the size of a level by four thresholds: 0 up to the first, 1 below the second, 2 below the third, 3 below the fourth, else 4
abbrev pub level_by : (first second third fourth m : ℕ) → ℕ
level_by first second third fourth m =
    cond (leb m first) 0
    (cond (ltb m second) 1
    (cond (ltb m third) 2
    (cond (ltb m fourth) 3 4)))

-- ---- passes

-- n positions, two apart, from p on
unfoldable pub two_apart : (n p : ℕ) → List ℕ
two_apart zero p = []
two_apart (suc n) p = p ∷ two_apart n (p + 2)

-- one of the first list and one of the second by turns, and then what is left
unfoldable pub by_turns : List ℕ → List ℕ → List ℕ
by_turns [] others = others
by_turns (p ∷ odds) [] = p ∷ odds
by_turns (p ∷ odds) (r ∷ evens) = p ∷ r ∷ by_turns odds evens

-- the order of a pass: the even positions 0 to 8; then the odd ones, which alternate with the evens to the end
unfoldable pub positions : (W : ℕ) → List ℕ
positions W = two_apart 5 0 ++ by_turns (two_apart (W / 2) 1) (two_apart (W / 2 - 5) 10)

-- at each position, even or odd, the first line goes before the second
unfoldable pub steps_over : Plan → List ℕ → List Step
steps_over P [] = []
steps_over P (p ∷ l) = cond (eqb (p % 2) 0) (even_steps P p) (odd_steps P p) ++ steps_over P l

-- how many steps have a code
unfoldable pub codes_in : List Step → ℕ
codes_in [] = 0
codes_in (x ∷ l) = cond x.coded 1 0 + codes_in l

-- the steps of a line: its six passes
unfoldable pub steps_of_line : (W : ℕ) (xtrans : Bool) → List Step
steps_of_line W xtrans = upto (λ i. pass_steps W (plan_of xtrans i)) 6

-- each of these steps has a code exactly where its position is not interpolated
unfoldable pub CodedWhereNotInterpolated : (xtrans : Bool) → List Step → Type 0
CodedWhereNotInterpolated xtrans [] = Unit {0}
CodedWhereNotInterpolated xtrans (x ∷ l) =
    (x.coded ≡ not (is_interpolated xtrans x.line x.position)) × CodedWhereNotInterpolated xtrans l

-- ---- the facts

pub record Facts : Type 0 where
  -- Statistics: k is the least such number, capped at 15
  pub k_is_least : (t : Record) → LeastK t (k_of t)
  -- Statistics: sum stays below 2^26, whatever residuals a quantiser's record is updated by
  pub sum_is_low : (bits q weight : ℕ) (sizes : List ℕ) → bits ≤ 16 → AtMost largest_residual sizes
      → (updated_by sizes (started (quantiser_of bits q weight))).sum < 2 ^ 26
  -- for no code that is read has a larger residual
  pub residual_is_low : (s : List ℕ) (p k bits q weight : ℕ) (c : Code) → bits ≤ 16 → k ≤ 15
      → code_at s p k (quantiser_of bits q weight).limit (quantiser_of bits q weight).raw ≡ Some c
      → (residual_of c.value).size ≤ largest_residual
  -- Quantiser: the thresholds of the flat quantisers
  pub flat_1 : (bits m : ℕ) → level_size (flat_of bits 1).base m ≡ level_by 0 18 67 276 m
  pub flat_2 : (bits m : ℕ) → level_size (flat_of bits 2).base m ≡ level_by 1 21 72 283 m
  pub flat_3 : (bits m : ℕ) → level_size (flat_of bits 3).base m ≡ level_by 2 24 77 290 m
  -- Code: the size of a gradient never exceeds 40; where flat quantiser i is used, 4
  pub main_gradient : (q : ℕ) (first second : Signed) → (gradient_of q 9 first second).size ≤ 40
  pub flat_gradient : (q i : ℕ) (x : Context) → choice_of q (flatness_of x) ≡ i → 1 ≤ i → (gradient_of (i - 1) 3 x.first x.second).size ≤ 4
  -- Pass and line: the order of the samples, Bayer (W 384) and X-Trans (W 512)
  pub bayer_order : (P : Plan) → pass_steps 384 P ≡ steps_over P (positions 384)
  pub x_trans_order : (P : Plan) → pass_steps 512 P ≡ steps_over P (positions 512)
  -- Pass and line: the rules of the six passes are those of the lines that X-Trans interpolates; Bayer codes all positions
  pub rules_agree : (xtrans : Bool) (W i : ℕ) → i < 6 → CodedWhereNotInterpolated xtrans (pass_steps W (plan_of xtrans i))
  -- Pass and line: either way 4,608 codes
  pub bayer_codes : codes_in (steps_of_line 384 false) ≡ 4608
  pub x_trans_codes : codes_in (steps_of_line 512 true) ≡ 4608
