-- Steps that were read, tight or not: writing the samples that they left meets none that is wrong, and goes through the same lines. Assumes nothing.
use mathlib.Core.Bool.{Bool, true, false, cond}
use mathlib.Core.List.{List, [], ◌∷◌}
use mathlib.Core.Path.{◌≡◌, refl, sym, ap, ◌∙◌}
use Prim.Native.Nat.{ℕ, ◌+◌, ◌≤◌}
use native.Mathlib.Omega.{arith}
use lib.ListN.{get_or, set}
use lib.Seq.{get_or-set_same}
use Rattle.quantiser.specs.Quantisers.{largest}
use Rattle.pass_schedule.specs.Steps.{Step, step_place}
use Rattle.pass_schedule.proofs.OrderLaws.{All, cell, Apart}
use Rattle.pass_steps.specs.Contexts.{step_context, step_look, step_slot}
use Rattle.read_pass.specs.Readings.{Reading, interpolate, take_code, taken, step_code, read_step, reads}
use Rattle.read_pass.proofs.FrameLaws.{first_then, steps_leave}
use Rattle.read_pass.proofs.RangeLaws.{step_keeps}
use Rattle.write_pass.specs.Writings.{Writing, write_step, writes}
use Rattle.write_pass.proofs.WriteLaws.{wanted}
use Rattle.theorem_one_to_one.proofs.StepForward.{InLines, cell_lt}
use Rattle.theorem_one_to_one.proofs.Together.{Sound}
use Rattle.theorem_one_to_one.proofs.PredictedSteps.{step_lines, step_wrong}
use Rattle.std.specs.Prelude.{None, Option, Some}
use Rattle.code.specs.declared.Code.{Code}

-- what a step that was read has put into its place; without a code it is the prediction
pub record Puts (W : ℕ) (x : Step) (r y : Reading) : Type 0 where
  pub value : ℕ
  pub lines : y.lines ≡ set r.lines (cell W x) value
  pub predicted : x.coded ≡ false → value ≡ (step_context W x r.lines).prediction

step_puts : (bits q W : ℕ) (s : List ℕ) (x : Step) (r y : Reading) → read_step bits q W s x r ≡ Some y → Puts W x r y
unfolding read_step
step_puts bits q W s x r y e = go x.coded refl (step_code bits q W s x r) e
  where
    with_code : x.coded ≡ true → (v : ℕ) (a : Reading) → a.lines ≡ set r.lines (cell W x) v → Some a ≡ Some y → Puts W x r y
    with_code eb v a el f =
        record {
          value = v;
          lines = let same : a ≡ y = cc in rw same at el;
          predicted = λ c. let k : true ≡ false = sym eb ∙ c in let no : ◌≡◌ {A = ℕ} 0 1 = cc in absurd (omega arith);
        }

    go : (b : Bool) → x.coded ≡ b → (g : Option Code)
        → cond b (taken bits q (step_place W x) (step_slot q W x r.lines) (step_context W x r.lines) (step_look q W x r.lines) r g)
        (Some (interpolate (step_place W x) (step_context W x r.lines) r)) ≡ Some y
        → Puts W x r y
    go true eb None f = let no : ◌≡◌ {A = ℕ} 0 1 = cc in absurd (omega arith)
    go true eb (Some d) f =
        with_code eb _ (take_code bits q (step_place W x) (step_slot q W x r.lines) (step_context W x r.lines) (step_look q W x r.lines) d r) refl f
    go false eb g f = record { value = (step_context W x r.lines).prediction; lines = cc; predicted = λ c. refl }

-- writing goes through these lines, and has met no wrong sample
abbrev pub Same : List ℕ → Writing → Type 0
Same lines w = (w.lines ≡ lines) × (w.wrong ≡ None)

-- reading goes with any base q, writing without one
module _ (bits q W : ℕ) (high : bits ≤ 16) (s t : List ℕ) (n : ℕ) where
  abbrev M : ℕ
  M = largest bits

  -- one step
  step_same : (x : Step) (r y : Reading) (w : Writing) → Sound bits W r.lines → InLines W x → read_step bits q W s x r ≡ Some y
      → get_or y.lines (cell W x) 0 ≡ wanted W t n x → wanted W t n x ≤ M → Same r.lines w → Same y.lines (write_step bits 0 W true t n x w)
  step_same x r y w ok inside e stands small same =
      let p : Puts W x r y = step_puts bits q W s x r y e in
      let there : get_or (set r.lines (cell W x) p.value) (cell W x) 0 ≡ p.value = get_or-set_same r.lines (cell W x) p.value 0
      (rw ok.long (cell_lt W x inside)) in
      let is : p.value ≡ wanted W t n x = sym there ∙ rw p.lines at stands in
      let right : x.coded ≡ false → wanted W t n x ≡ (step_context W x w.lines).prediction = λ c. sym is ∙ p.predicted c ∙ rw same.0 in
      let held : (j : ℕ) → get_or w.lines j 0 ≤ M = rw same.0 ok.small in (
        step_lines bits W t n x w held small right ∙ rw (same.0, ← is) (sym p.lines),
        (step_wrong bits W t n x w).1 (same.1, right),
      )

  -- steps one after the other
  pub steps_same : (l : List Step) (r z : Reading) (w : Writing) → Sound bits W r.lines → All (InLines W) l → Apart W l → reads bits q W s l r ≡ Some z
      → All (λ x. get_or z.lines (cell W x) 0 ≡ wanted W t n x) l → All (λ x. wanted W t n x ≤ M) l → Same r.lines w
      → Same z.lines (writes bits 0 W true t n l w)
  unfolding reads writes
  steps_same [] r z w ok inside apart e stand small same = let is : r ≡ z = cc in rw (← is) same
  steps_same (x ∷ l) r z w ok inside apart e stand small same =
      let f = first_then bits q W s x l r z e in
      let y : Reading = f.0 in
      let k = step_keeps bits q W s high x r y f.1 in
      let ok' : Sound bits W y.lines = record { long = k.lines ∙ ok.long; small = k.samples ok.small } in
      let there : get_or y.lines (cell W x) 0 ≡ wanted W t n x = sym (steps_leave bits q W s (cell W x) l y z apart.0 f.2) ∙ stand.0 in
      steps_same l y z (write_step bits 0 W true t n x w) ok' inside.1 apart.1 f.2 stand.1 small.1
      (step_same x r y w ok inside.0 f.1 there small.0 same)
