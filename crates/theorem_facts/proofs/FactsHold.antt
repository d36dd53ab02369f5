-- Each fact holds, by the laws of the crate that it is about or by computation. Assumes nothing.
use mathlib.Core.Bool.{Bool, true, false}
use mathlib.Core.List.{List, [], ◌∷◌}
use mathlib.Core.Path.{◌≡◌, refl}
use Prim.Native.Nat.{ℕ, ◌-◌, ◌^◌, ◌≤◌, ◌<◌}
use native.Mathlib.Nat.{max-le}
use native.Mathlib.Omega.{arith}
use lib.Pow.{pow_mono}
use Rattle.statistics.specs.Statistics.{k_of, updated, largest_residual}
use Rattle.statistics.specs.Inside.{InRange}
use Rattle.statistics.specs.declared.Record.{Record}
use Rattle.statistics.proofs.RecordLaws as R
use Rattle.quantiser.specs.Quantisers.{total_of, raw_of, quantiser_of, start_sum, level_size, gradient_of}
use Rattle.quantiser.proofs.GradientLaws.{main_le, flat_le}
use Rattle.quantiser.proofs.QuantiserLaws.{total_le, log2_le}
use Rattle.prediction.specs.Predictions.{flatness_of}
use Rattle.prediction.specs.declared.Context.{Context}
use Rattle.code.specs.Codes.{code_at}
use Rattle.code.specs.Inside.{Bounds}
use Rattle.code.specs.Samples.{choice_of, residual_of}
use Rattle.code.specs.declared.Code.{Code}
use Rattle.code.proofs.CodeLaws.{code_bounds}
use Rattle.code.proofs.SampleLaws.{residual_size}
use Rattle.pass_schedule.specs.Steps.{plan_of, interpolated, Step, turn_steps, upto, pass_steps}
use Rattle.pass_schedule.specs.declared.Plan.{Plan}
use Rattle.pass_schedule.proofs.OrderLaws.{All}
use Rattle.pass_schedule.proofs.PlanLaws.{CodedIn, steps_coded}
use Rattle.pass_steps.proofs.LookLaws.{choice_cases}
use Rattle.theorem_facts.specs.Facts.{LeastK, started, updated_by, AtMost, two_apart, by_turns}
use Rattle.theorem_facts.specs.Facts.{positions, steps_over, codes_in, steps_of_line, CodedWhereNotInterpolated, Facts}
use Rattle.std.specs.Prelude.{Some}

-- ---- statistics

k_is_least : (t : Record) → LeastK t (k_of t)
k_is_least t = let L = R.k_least t in record { capped = L.capped; least = L.before; enough = L.holds }

start_sum_le : (bits q weight : ℕ) → bits ≤ 16 → start_sum (quantiser_of bits q weight) ≤ 1024
unfolding start_sum quantiser_of
start_sum_le bits q weight h =
    let p : 2 ^ bits ≤ 2 ^ 16 = pow_mono h in
    max-le (omega arith) (omega (arith, total_le bits q))

stays : (sizes : List ℕ) (t : Record) → AtMost largest_residual sizes → InRange t → InRange (updated_by sizes t)
unfolding updated_by AtMost
stays [] t low ok = ok
stays (r ∷ sizes) t low ok = stays sizes (updated t r) low.1 (R.updated_in_range t r ok low.0)

sum_is_low : (bits q weight : ℕ) (sizes : List ℕ) → bits ≤ 16 → AtMost largest_residual sizes
    → (updated_by sizes (started (quantiser_of bits q weight))).sum < 2 ^ 26
sum_is_low bits q weight sizes h low =
    let Q = quantiser_of bits q weight in
    R.sum_lt (updated_by sizes (started Q)) (stays sizes (started Q) low (R.start_in_range (start_sum Q) (start_sum_le bits q weight h)))

limits_are : (bits q weight : ℕ) → bits ≤ 16 → ((quantiser_of bits q weight).limit < 64) × ((quantiser_of bits q weight).raw ≤ 16)
unfolding quantiser_of raw_of
limits_are bits q weight h = (omega arith, log2_le (total_of bits q))

residual_is_low : (s : List ℕ) (p k bits q weight : ℕ) (c : Code) → bits ≤ 16 → k ≤ 15
    → code_at s p k (quantiser_of bits q weight).limit (quantiser_of bits q weight).raw ≡ Some c
    → (residual_of c.value).size ≤ largest_residual
residual_is_low s p k bits q weight c h hk e =
    let l = limits_are bits q weight h in
    let b : Bounds s (Some c) = rw e at (code_bounds s p k (quantiser_of bits q weight).limit (quantiser_of bits q weight).raw hk l.0 l.1) in
    omega (arith, b.0, residual_size c.value)

-- ---- gradients

flat_gradient : (q i : ℕ) (x : Context) → choice_of q (flatness_of x) ≡ i → 1 ≤ i → (gradient_of (i - 1) 3 x.first x.second).size ≤ 4
flat_gradient q i x e h =
    choice_cases q (flatness_of x)
    (λ z. absurd (omega arith))
    (λ j f lt low. flat_le (i - 1) x.first x.second (omega arith))

-- ---- passes

each_coded : (xtrans : Bool) (l : List Step) → All (CodedIn xtrans) l → CodedWhereNotInterpolated xtrans l
unfolding CodedWhereNotInterpolated
each_coded xtrans [] a = tt
each_coded xtrans (x ∷ l) a = (a.0, each_coded xtrans l a.1)

bayer_order : (P : Plan) → pass_steps 384 P ≡ steps_over P (positions 384)
unfolding pass_steps upto turn_steps steps_over positions two_apart by_turns
bayer_order P = refl

x_trans_order : (P : Plan) → pass_steps 512 P ≡ steps_over P (positions 512)
unfolding pass_steps upto turn_steps steps_over positions two_apart by_turns
x_trans_order P = refl

bayer_codes : codes_in (steps_of_line 384 false) ≡ 4608
unfolding codes_in steps_of_line pass_steps upto turn_steps plan_of interpolated
bayer_codes = refl

x_trans_codes : codes_in (steps_of_line 512 true) ≡ 4608
unfolding codes_in steps_of_line pass_steps upto turn_steps plan_of interpolated
x_trans_codes = refl

-- ---- all of them

pub facts : Facts
unfolding quantiser_of level_size
facts =
    record {
      k_is_least = k_is_least;
      sum_is_low = sum_is_low;
      residual_is_low = residual_is_low;
      flat_1 = λ bits m. refl;
      flat_2 = λ bits m. refl;
      flat_3 = λ bits m. refl;
      main_gradient = main_le;
      flat_gradient = flat_gradient;
      bayer_order = bayer_order;
      x_trans_order = x_trans_order;
      rules_agree = λ xtrans W i h. each_coded xtrans (pass_steps W (plan_of xtrans i)) (steps_coded xtrans W i h);
      bayer_codes = bayer_codes;
      x_trans_codes = x_trans_codes;
    }
