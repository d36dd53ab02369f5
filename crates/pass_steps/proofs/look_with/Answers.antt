-- `pass_steps::look_with` meets its contract; the bound of the place is a law of the definition. Assumes nothing.
use mathlib.Core.Path.{◌≡◌, ap, ◌∙◌}
use Prim.Native.Nat.{ℕ, ◌≤◌}
use native.Mathlib.Omega.{arith}
use Rattle.numbers.specs.declared.Signed.{Signed}
use Rattle.quantiser.specs.Inside.{thresholds_of, Serves}
use Rattle.quantiser.specs.Quantisers.{gradient_of}
use Rattle.quantiser.specs.declared.Thresholds.{Thresholds}
use Rattle.prediction.specs.Predictions.{flatness_of}
use Rattle.prediction.specs.declared.Context.{Context}
use Rattle.code.specs.Samples.{choice_of}
use Rattle.pass_steps.specs.Contexts.{used_base, used_weight, place_of, look_of}
use Rattle.pass_steps.specs.declared.Look.{Look}
use Rattle.pass_steps.proofs.LookLaws.{thresholds_for, serves, place_lt}
use Rattle.pass_steps.proofs.look_with.Goals as goal

made : (q i u w p : ℕ) (x : Context) (g : Signed) → i ≡ choice_of q (flatness_of x) → u ≡ used_base q i → w ≡ used_weight i
    → g ≡ gradient_of u w x.first x.second → p ≡ place_of i g.size
    → ◌≡◌ {A = Look} (record { choice = i; base = u; negative = g.negative; place = p }) (look_of q x)
unfolding look_of
made q i u w p x g ei eu ew eg ep = rw (ep, eg, ew, eu, ei)

-- the thresholds at hand are those of the line's base, with the used one, and serve both differences
at_hand : (q i u : ℕ) (t v : Thresholds) (x : Context) → i ≡ choice_of q (flatness_of x) → u ≡ used_base q i → t ≡ thresholds_of q
    → v ≡ record { base = u; second = t.second; third = t.third; fourth = t.fourth } → v ≡ thresholds_for q (used_base q (choice_of q (flatness_of x)))
at_hand q i u t v x ei eu et ev = ev ∙ rw (et, eu, ei)

serving : (q m : ℕ) (v : Thresholds) (x : Context) → v ≡ thresholds_for q (used_base q (choice_of q (flatness_of x))) → m ≤ flatness_of x → Serves v m
serving q m v x e h = rw e (serves q m x h)

of_thresholds : (v : Thresholds) (u w : ℕ) (x : Context) (g : Signed) → v.base ≡ u → g ≡ gradient_of v.base w x.first x.second
    → g ≡ gradient_of u w x.first x.second
of_thresholds v u w x g ev eg = eg ∙ ap (λ (b : ℕ). gradient_of b w x.first x.second) ev

pub gradient_by-g-requires : goal.gradient_by-g-requires
gradient_by-g-requires c =
    let e = at_hand c.args.base _ _ _ _ c.args.x c.requires.1.1.0 c.used_base-used.ensures.0 c.thresholds_of.ensures c.with_base-t.ensures in
    (rw (ap (λ (z : Thresholds). z.base) c.with_base-t.ensures) omega (arith, c.used_base-used.ensures.1, c.requires), (c.used_weight.ensures.1, (serving c.args.base _ _ c.args.x e (omega arith), serving c.args.base _ _ c.args.x e (omega arith))))

pub returns : goal.returns
returns c =
    let eg = of_thresholds c.with_base-t.result _ _ c.args.x c.gradient_by-g.result (ap (λ (t : Thresholds). t.base) c.with_base-t.ensures) c.gradient_by-g.ensures.0 in
    let e = made c.args.base _ _ _ _ c.args.x c.gradient_by-g.result c.requires.1.1.0 c.used_base-used.ensures.0 c.used_weight.ensures.0 eg c.place_of.ensures in
    (e, (c.requires.1.0, (omega (arith, c.used_base-used.ensures.1, c.requires), omega (arith, place_lt c.args.base c.args.x, ap (λ (h : Look). h.place) e))))
