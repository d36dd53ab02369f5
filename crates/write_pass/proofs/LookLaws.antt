-- Looking at a lossless set: a sample that is right is what writing puts into the lines, and steps one after the other. Assumes nothing.
use borrow.Author.Tests.{eq-eqb, lt-ltb, le-ltb, le-leb, lt-leb}
use mathlib.Core.Bool.{Bool, true, false, not}
use mathlib.Core.List.{List, [], ◌∷◌, ◌++◌}
use mathlib.Core.Path.{◌≡◌, refl, sym}
use Prim.Native.Nat.{ℕ, ◌+◌, ◌-◌, ◌*◌, ◌≤◌, ◌<◌}
use native.Mathlib.Omega.{arith}
use lib.Dec.{eqb}
use lib.ListN.{get_or, set}
use Rattle.quantiser.specs.Quantisers.{largest, quantiser_of, gradient_of}
use Rattle.quantiser.proofs.QuantiserLaws.{total_wide}
use Rattle.prediction.specs.declared.Context.{Context}
use Rattle.code.specs.Samples.{sample_of}
use Rattle.code.specs.Nearest.{code_near}
use Rattle.code.proofs.NearLaws.{near_back}
use Rattle.pass_steps.specs.Contexts.{used_quantiser, context_in, look_of, step_context}
use Rattle.pass_schedule.specs.Steps.{Step, step_at, interpolated, even_part, odd_part}
use Rattle.pass_schedule.specs.declared.Plan.{Plan}
use Rattle.pass_steps.proofs.ContextLaws.{context_le}
use Rattle.pass_steps.proofs.LookLaws.{look_lossless}
use Rattle.write_pass.specs.Looks.{SampleLooked, Right}
use Rattle.write_pass.specs.Puts.{Within, Wanted}
use Rattle.colour_lines.specs.Sets.{index_in}
use Rattle.write_pass.specs.Writings.{Writing, given_sample, wanted_code, write_step, writes}
use Rattle.write_pass.proofs.StepPuts.{writes_within}
use Rattle.write_pass.proofs.WriteLaws.{wanted, write_coded, write_interpolated, writes_append}
use Rattle.std.specs.Prelude.{None}

-- ---- one step

-- with base 0 the nearest sample is the wanted one
pub given_exact : (bits v : ℕ) (c : Context) → c.prediction ≤ largest bits → v ≤ largest bits
    → given_sample bits 0 (wanted_code bits 0 v c (look_of 0 c)) c (look_of 0 c) ≡ v
unfolding quantiser_of
given_exact bits v c hc hv = rw (look_lossless c) exact
  where
    M : ℕ
    M = largest bits

    negative : Bool
    negative = (gradient_of 0 9 c.first c.second).negative

    total : ℕ
    total = (used_quantiser bits 0 0).total

    wide : M + 2 * 0 < total * (2 * 0 + 1)
    wide = total_wide bits 0

    exact : sample_of M 0 total negative c.prediction (code_near 0 total negative c.prediction v) ≡ v
    exact = let near = (near_back M 0 total wide negative c.prediction v hc hv).1 in omega (arith, near.0, near.1)

as_found : (z : Writing) (lines : List ℕ) → z.lines ≡ lines → z.wrong ≡ None → z ≡ record { lines = lines; set = z.set; bits = z.bits; wrong = None }
as_found z lines e f = rw (← e, ← f)

module _ (bits W : ℕ) (t : List ℕ) (n : ℕ) where
  one_right : (x : Step) (lines lines' : List ℕ) → Within (largest bits) lines → (x.coded ≡ true → wanted W t n x ≤ largest bits)
      → SampleLooked W t n x lines lines' → Right bits W t n (x ∷ []) lines lines'
  unfolding writes
  one_right x lines lines' hl hv k s b = go x.coded refl
    where
      r : Writing
      r = record { lines = lines; set = s; bits = b; wrong = None }

      c : Context
      c = step_context W x lines

      go : (d : Bool) → x.coded ≡ d → ((write_step bits 0 W true t n x r).lines ≡ lines') × ((write_step bits 0 W true t n x r).wrong ≡ None)
      go true e =
          let g = given_exact bits (wanted W t n x) c (context_le (largest bits) W lines x.line x.position hl) (hv e) in
          rw (write_coded bits 0 W true t n x r e, g) (sym k.placed, refl)
      go false e =
          let p : wanted W t n x ≡ c.prediction = k.predicted e in
          let same : eqb (wanted W t n x) c.prediction ≡ true = eq-eqb (wanted W t n x) c.prediction p in
          rw (write_interpolated bits 0 W true t n x r e, same) (rw (← p) (sym k.placed), refl)

  -- steps one after the other
  pub right_both : (k l : List Step) (lines lines₁ lines₂ : List ℕ) → Right bits W t n k lines lines₁ → Right bits W t n l lines₁ lines₂
      → Right bits W t n (k ++ l) lines lines₂
  right_both k l lines lines₁ lines₂ g h s b =
      let z : Writing = writes bits 0 W true t n k (record { lines = lines; set = s; bits = b; wrong = None }) in
      let e = as_found z lines₁ (g s b).0 (g s b).1 in
      rw (writes_append bits 0 W true t n k l (record { lines = lines; set = s; bits = b; wrong = None }), e) (h z.set z.bits)

  pub right_none : (lines : List ℕ) → Right bits W t n [] lines lines
  unfolding writes
  right_none lines s b = (refl, refl)

  -- the samples stay up to M
  pub right_within : (l : List Step) (lines lines' : List ℕ) → Right bits W t n l lines lines' → Within (largest bits) lines → Within (largest bits) lines'
  right_within l lines lines' g h =
      rw (← (g [] []).0) (writes_within bits 0 W true t n l (record { lines = lines; set = []; bits = []; wrong = None }) h)

  -- the two samples at a position
  pub two_right : (x y : Step) (lines lines₁ lines₂ : List ℕ) → Within (largest bits) lines → Wanted (largest bits) W t n (x ∷ y ∷ [])
      → SampleLooked W t n x lines lines₁ → SampleLooked W t n y lines₁ lines₂ → Right bits W t n (x ∷ y ∷ []) lines lines₂
  two_right x y lines lines₁ lines₂ hl hv k l =
      let f = one_right x lines lines₁ hl hv.0 k in
      right_both (x ∷ []) (y ∷ []) lines lines₁ lines₂ f (one_right y lines₁ lines₂ (right_within (x ∷ []) lines lines₁ f hl) hv.1.0 l)

-- ---- as the program finds it

pub sample_looked : (W : ℕ) (t : List ℕ) (n line p : ℕ) (coded : Bool) (lines : List ℕ) (i j : ℕ) → i ≡ line * (W + 2) + p → j ≡ index_in W n line p
    → (coded ≡ false → get_or t j 0 ≡ (context_in W lines line p).prediction)
    → SampleLooked W t n (step_at line p coded) lines (set lines (i + 1) (get_or t j 0))
sample_looked W t n line p coded lines i j ei ej h = record { placed = rw (ei, ej); predicted = rw ej at h }

-- the two steps of a turn's parts, by what the program finds; or none
pub even_steps_lem : (W : ℕ) (P : Plan) (p : ℕ) {a b : Bool} → p < W → a ≡ not (interpolated P.first_rule p) → b ≡ not (interpolated P.second_rule p)
    → step_at P.first p a ∷ step_at P.second p b ∷ [] ≡ even_part W P p
even_steps_lem W P p h ea eb = rw (lt-ltb p W h, ea, eb)

pub odd_steps_lem : (P : Plan) (p : ℕ) → 8 ≤ p → step_at P.first (p - 7) true ∷ step_at P.second (p - 7) true ∷ [] ≡ odd_part P p
odd_steps_lem P p h = rw (le-leb 8 p h)

pub no_even_right : (bits W : ℕ) (t : List ℕ) (n : ℕ) (P : Plan) (p : ℕ) (lines : List ℕ) → W ≤ p → Right bits W t n (even_part W P p) lines lines
no_even_right bits W t n P p lines h = rw (le-ltb p W h) (right_none bits W t n lines)

pub no_odd_right : (bits W : ℕ) (t : List ℕ) (n : ℕ) (P : Plan) (p : ℕ) (lines : List ℕ) → p < 8 → Right bits W t n (odd_part P p) lines lines
no_odd_right bits W t n P p lines h = rw (lt-leb 8 p h) (right_none bits W t n lines)

-- the same steps by another name
pub right_other : (bits W : ℕ) (t : List ℕ) (n : ℕ) (lines lines' : List ℕ) {k l : List Step} → k ≡ l → Right bits W t n k lines lines'
    → Right bits W t n l lines lines'
right_other bits W t n lines lines' e g = rw e at g
