-- The steps of a pass, by the samples of a set: what they leave in the lines, and when no interpolated sample is wrong. Assumes nothing.
use mathlib.Core.Bool.{Bool, true, false, cond, not}
use mathlib.Core.List.{List, [], ◌∷◌}
use mathlib.Core.Logic.{◌≢◌, ◌↔◌}
use mathlib.Core.Path.{◌≡◌, refl, sym, ap, ◌∙◌}
use Prim.Native.Nat.{ℕ, ◌+◌, ◌-◌, ◌*◌, ◌%◌, ◌≤◌, ◌<◌}
use native.Mathlib.Omega.{arith}
use lib.ListN.{length, get_or, set, length-set}
use lib.Seq.{get_or-set_other, get_or-set_same}
use borrow.Author.Tests.{eq-eqb, eqb-true}
use Rattle.pass_schedule.specs.Steps.{Step}
use Rattle.pass_steps.specs.Contexts.{even_in, context_in, step_context}
use Rattle.pass_steps.proofs.ContextLaws.{context_le}
use Rattle.quantiser.specs.Quantisers.{largest}
use Rattle.prediction.specs.Predictions.{even_prediction, even_context}
use Rattle.write_pass.specs.Puts.{Within}
use Rattle.write_pass.specs.Writings.{Writing, or_second, write_step, writes}
use Rattle.pass_schedule.proofs.OrderLaws.{All, cell, Apart}
use Rattle.write_pass.proofs.LookLaws.{given_exact}
use Rattle.write_pass.proofs.StepPuts.{step_within}
use Rattle.write_pass.proofs.WriteLaws.{wanted, write_coded, write_interpolated, writes_right}
use Rattle.std.specs.Prelude.{None, Option, Some}

-- ---- one step

module _ (bits W : ℕ) (t : List ℕ) (n : ℕ) (x : Step) (r : Writing) where
  -- the sample goes to its place, whatever it is
  pub step_set : (v : ℕ) × ((write_step bits 0 W true t n x r).lines ≡ set r.lines (cell W x) v)
  step_set = go x.coded refl
    where
      go : (b : Bool) → x.coded ≡ b → (v : ℕ) × ((write_step bits 0 W true t n x r).lines ≡ set r.lines (cell W x) v)
      go true e = (_, ap (λ (z : Writing). z.lines) (write_coded bits 0 W true t n x r e))
      go false e = (_, ap (λ (z : Writing). z.lines) (write_interpolated bits 0 W true t n x r e))

  -- an interpolated sample is its prediction
  abbrev pub Right : List ℕ → Type 0
  Right lines = x.coded ≡ false → wanted W t n x ≡ (step_context W x lines).prediction

  -- it is the set's, if that is in range and an interpolated one is its prediction
  pub step_lines : Within (largest bits) r.lines → wanted W t n x ≤ largest bits → Right r.lines
      → (write_step bits 0 W true t n x r).lines ≡ set r.lines (cell W x) (wanted W t n x)
  step_lines h small right = go x.coded refl
    where
      go : (b : Bool) → x.coded ≡ b → (write_step bits 0 W true t n x r).lines ≡ set r.lines (cell W x) (wanted W t n x)
      go true e =
          rw (write_coded bits 0 W true t n x r e)
          (ap (λ (v : ℕ). set r.lines (cell W x) v)
          (given_exact bits (wanted W t n x) (step_context W x r.lines) (context_le (largest bits) W r.lines x.line x.position h) small))
      go false e = rw (write_interpolated bits 0 W true t n x r e) (ap (λ (v : ℕ). set r.lines (cell W x) v) (sym (right e)))

  pub step_wrong : (write_step bits 0 W true t n x r).wrong ≡ None ↔ (r.wrong ≡ None) × Right r.lines
  step_wrong = go x.coded refl
    where
      second : (a b : Option ℕ) → or_second a b ≡ None → (a ≡ None) × (b ≡ None)
      second None b e = (refl, e)
      second (Some i) b e = let no : ◌≡◌ {A = ℕ} 0 1 = cc in absurd (omega arith)

      test : (v : ℕ) (b : Bool) (j : ℕ) → cond (not b) (Some j) None ≡ None → b ≡ true
      test v true j e = refl
      test v false j e = let no : ◌≡◌ {A = ℕ} 0 1 = cc in absurd (omega arith)

      go : (b : Bool) → x.coded ≡ b → (write_step bits 0 W true t n x r).wrong ≡ None ↔ (r.wrong ≡ None) × Right r.lines
      go true e = rw (write_coded bits 0 W true t n x r e) (
        λ w. (w, λ f. let no : true ≡ false = sym e ∙ f in let z : ◌≡◌ {A = ℕ} 0 1 = cc in absurd (omega arith)),
        λ w. w.0,
      )
      go false e = rw (write_interpolated bits 0 W true t n x r e) (
        λ w. let s = second r.wrong _ w in (s.0, λ f. eqb-true _ _ (test (wanted W t n x) _ _ s.1)),
        λ w. rw (w.0, eq-eqb (wanted W t n x) (step_context W x r.lines).prediction (w.1 e)),
      )

-- ---- steps one after the other

module _ (bits W : ℕ) (t : List ℕ) (n : ℕ) where
  -- places that no step goes to are as they were
  pub writes_leave : (j : ℕ) (l : List Step) (r : Writing) → All (λ x. j ≢ cell W x) l → get_or (writes bits 0 W true t n l r).lines j 0 ≡ get_or r.lines j 0
  unfolding writes
  writes_leave j [] r a = refl
  writes_leave j (x ∷ l) r a =
      writes_leave j l (write_step bits 0 W true t n x r) a.1
      ∙ ap (λ (m : List ℕ). get_or m j 0) (step_set bits W t n x r).1 ∙ get_or-set_other r.lines (cell W x) j (step_set bits W t n x r).0 0 a.0

  step_length : (x : Step) (r : Writing) → length (write_step bits 0 W true t n x r).lines ≡ length r.lines
  step_length x r = ap (λ (m : List ℕ). length m) (step_set bits W t n x r).1 ∙ length-set r.lines (cell W x) (step_set bits W t n x r).0

  pub writes_length : (l : List Step) (r : Writing) → length (writes bits 0 W true t n l r).lines ≡ length r.lines
  unfolding writes
  writes_length [] r = refl
  writes_length (x ∷ l) r =
      writes_length l (write_step bits 0 W true t n x r) ∙ step_length x r

  -- each sample is where it goes, if none is wrong
  pub writes_stand : ((j : ℕ) → get_or t j 0 ≤ largest bits) → (l : List Step) (r : Writing) → Within (largest bits) r.lines
      → (writes bits 0 W true t n l r).wrong ≡ None
      → All (λ x. cell W x < length r.lines) l → Apart W l → All (λ x. get_or (writes bits 0 W true t n l r).lines (cell W x) 0 ≡ wanted W t n x) l
  unfolding writes
  writes_stand range [] r h w a b = tt
  writes_stand range (x ∷ l) r h w a b =
      let y : Writing = write_step bits 0 W true t n x r in
      let right = ((step_wrong bits W t n x r).0 (writes_right bits 0 W true t n l y w)).1 in
      let e : y.lines ≡ set r.lines (cell W x) (wanted W t n x) = step_lines bits W t n x r h (range _) right in (
        writes_leave (cell W x) l y b.0 ∙ rw e (get_or-set_same r.lines (cell W x) (wanted W t n x) 0 a.0),
        writes_stand range l y (step_within bits 0 W true t n x r h) w (rw (e, length-set r.lines (cell W x) (wanted W t n x)) a.1) b.1,
      )

-- ---- the prediction of an even position goes by the two lines above alone

-- place d of line l
abbrev pub place : ℕ → ℕ → ℕ → ℕ
place W l d = l * (W + 2) + d

pub even_sees : (W l p : ℕ) (lines : List ℕ) → p % 2 ≡ 0
    → (context_in W lines l p).prediction
    ≡ even_prediction (get_or lines (place W (l - 2) (p + 1)) 0) (get_or lines (place W (l - 1) p) 0) (get_or lines (place W (l - 1) (p + 1)) 0)
    (get_or lines (place W (l - 1) (p + 2)) 0)
unfolding context_in even_in even_context
even_sees W l p lines even = rw (eq-eqb (p % 2) 0 even)

-- ---- the steps of a pass whose two lines are A and B

module _ (W A B : ℕ) where
  -- lines agree but for these two
  abbrev pub Agree : List ℕ → List ℕ → Type 0
  Agree before lines = (m d : ℕ) → m ≢ A → m ≢ B → d < W + 2 → get_or lines (place W m d) 0 ≡ get_or before (place W m d) 0

  -- a step of such a pass: it goes to one of the two lines, and an interpolated one is at an even position, with two other lines above it
  pub record InPass (x : Step) : Type 0 where
    pub one : (m d : ℕ) → m ≢ A → m ≢ B → d < W + 2 → place W m d ≢ cell W x
    pub inside : x.position < W
    pub above : x.coded ≡ false → (2 ≤ x.line) × (x.line - 1 ≢ A) × (x.line - 1 ≢ B) × (x.line - 2 ≢ A) × (x.line - 2 ≢ B) × (x.position % 2 ≡ 0)

  same_prediction : (before lines : List ℕ) (x : Step) → InPass x → x.coded ≡ false → Agree before lines
      → (step_context W x lines).prediction ≡ (step_context W x before).prediction
  same_prediction before lines x p c g =
      let a = p.above c in
      let in2 : x.position + 2 < W + 2 = omega (arith, p.inside) in
      even_sees W x.line x.position lines a.5
      ∙ rw (
        g (x.line - 2) (x.position + 1) a.3 a.4 (omega arith),
        g (x.line - 1) x.position a.1 a.2 (omega arith),
        g (x.line - 1) (x.position + 1) a.1 a.2 (omega arith),
        g (x.line - 1) (x.position + 2) a.1 a.2 in2,
      ) (sym (even_sees W x.line x.position before a.5))

  module _ (bits : ℕ) (t : List ℕ) (n : ℕ) (before : List ℕ) where
    abbrev pub AllRight : List Step → Type 0
    AllRight l = All (λ x. x.coded ≡ false → wanted W t n x ≡ (step_context W x before).prediction) l

    agree_next : (x : Step) (r : Writing) → InPass x → Agree before r.lines → Agree before (write_step bits 0 W true t n x r).lines
    agree_next x r p g m d a b h =
        ap (λ (k : List ℕ). get_or k (place W m d) 0) (step_set bits W t n x r).1
        ∙ get_or-set_other r.lines (cell W x) (place W m d) (step_set bits W t n x r).0 0 (p.one m d a b h)
        ∙ g m d a b h

    -- no interpolated sample of theirs is wrong exactly when each is its prediction, by the lines before the pass
    pub writes_wrong : (l : List Step) (r : Writing) → All InPass l → Agree before r.lines
        → (writes bits 0 W true t n l r).wrong ≡ None ↔ (r.wrong ≡ None) × AllRight l
    unfolding writes
    writes_wrong [] r p g = (λ w. (w, tt), λ w. w.0)
    writes_wrong (x ∷ l) r p g =
        let y : Writing = write_step bits 0 W true t n x r in
        let rest = writes_wrong l y p.1 (agree_next x r p.0 g) in
        let one = step_wrong bits W t n x r in (
          λ w. let a = rest.0 w in let b = one.0 a.0 in (b.0, (λ c. b.1 c ∙ same_prediction before r.lines x p.0 c g, a.1)),
          λ w. rest.1 (one.1 (w.0, λ c. w.1.0 c ∙ sym (same_prediction before r.lines x p.0 c g)), w.1.1),
        )
