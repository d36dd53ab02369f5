-- Readings step by step: what a step gives, a list of steps that is put together, the turns of a pass, and a pass some turns at a time. Assumes nothing.
use mathlib.Core.Bool.{true, false}
use mathlib.Core.List.{List, [], ◌∷◌, ◌++◌}
use mathlib.Core.Path.{◌≡◌, refl, sym, ap, ◌∙◌}
use Prim.Native.Nat.{ℕ, zero, suc, ◌+◌, ◌-◌, ◌*◌, ◌/◌, ◌%◌, ◌≤◌, ◌<◌}
use native.Mathlib.Nat.{add-zero, add-suc}
use native.Mathlib.Omega.{arith}
use borrow.Author.Tests.{lt-ltb, le-ltb, le-leb, lt-leb}
use Rattle.code.specs.declared.Code.{Code}
use Rattle.pass_schedule.specs.Steps.{Step, even_steps, odd_steps, even_part, odd_part, turn_steps, upto, pass_steps}
use Rattle.pass_schedule.specs.Steps.{step_place}
use Rattle.pass_steps.specs.Contexts.{step_context, step_look, step_slot}
use Rattle.pass_schedule.specs.declared.Plan.{Plan}
use Rattle.pass_schedule.proofs.TurnLaws.{turn_is}
use Rattle.read_pass.specs.Pairs.{chunk_steps}
use Rattle.read_pass.specs.Readings.{Reading, interpolate, take_code, step_code, read_step, and_then, reads, read_pass}
use Rattle.std.specs.Prelude.{None, Some, Option}

-- ---- one step

module _ (bits q W : ℕ) (s : List ℕ) (x : Step) (r : Reading) where
  -- the three ways in which a step goes
  pub step_interpolated : x.coded ≡ false → read_step bits q W s x r ≡ Some (interpolate (step_place W x) (step_context W x r.lines) r)
  unfolding read_step
  step_interpolated e = rw e

  pub step_cut_off : x.coded ≡ true → step_code bits q W s x r ≡ None → read_step bits q W s x r ≡ None
  unfolding read_step
  step_cut_off e f = rw (e, f)

  pub step_read : (c : Code) → x.coded ≡ true → step_code bits q W s x r ≡ Some c
      → read_step bits q W s x r
      ≡ Some (take_code bits q (step_place W x) (step_slot q W x r.lines) (step_context W x r.lines) (step_look q W x r.lines) c r)
  unfolding read_step
  step_read c e f = rw (e, f)

-- ---- a list of steps

-- what a step gives, and what a list of steps gives
pub record StepGives (bits q W : ℕ) (s : List ℕ) (x : Step) (r : Reading) (o : Option Reading) : Type 0 where
  pub is : read_step bits q W s x r ≡ o

pub record StepsGive (bits q W : ℕ) (s : List ℕ) (l : List Step) (r : Reading) (o : Option Reading) : Type 0 where
  pub are : reads bits q W s l r ≡ o

pub reads_append : (bits q W : ℕ) (s : List ℕ) (k l : List Step) (r : Reading)
    → reads bits q W s (k ++ l) r ≡ and_then (reads bits q W s k r) (λ z. reads bits q W s l z)
unfolding reads and_then
reads_append bits q W s [] l r = refl
reads_append bits q W s (x ∷ k) l r = go (read_step bits q W s x r) (λ z. reads_append bits q W s k l z)
  where
    go : (o : Option Reading) → ((z : Reading) → reads bits q W s (k ++ l) z ≡ and_then (reads bits q W s k z) (λ y. reads bits q W s l y))
        → and_then o (λ z. reads bits q W s (k ++ l) z) ≡ and_then (and_then o (λ z. reads bits q W s k z)) (λ z. reads bits q W s l z)
    go None ih = refl
    go (Some z) ih = ih z

module _ {bits q W : ℕ} {s : List ℕ} {r : Reading} where
  -- no step, and two steps
  pub no_steps : StepsGive bits q W s [] r (Some r)
  unfolding reads
  no_steps = record { are = refl }

  pub two_steps : {x y : Step} {z : Reading} {o : Option Reading} → StepGives bits q W s x r (Some z) → StepGives bits q W s y z o
      → StepsGive bits q W s (x ∷ y ∷ []) r o
  unfolding reads and_then
  two_steps {y = y} {o = None} e f = record { are = rw (e.is, f.is) }
  two_steps {y = y} {o = Some u} e f = record { are = rw (e.is, f.is) }

  pub first_none_lem : {x y : Step} → StepGives bits q W s x r None → StepsGive bits q W s (x ∷ y ∷ []) r None
  unfolding reads and_then
  first_none_lem e = record { are = rw e.is }

  -- the second part goes on where the first ends
  pub append_some : {k l : List Step} {z : Reading} {o : Option Reading} → StepsGive bits q W s k r (Some z) → StepsGive bits q W s l z o
      → StepsGive bits q W s (k ++ l) r o
  unfolding and_then
  append_some {k} {l} e f = record { are = reads_append bits q W s k l r ∙ (rw e.are f.are) }

  pub append_none : {k : List Step} (l : List Step) → StepsGive bits q W s k r None → StepsGive bits q W s (k ++ l) r None
  unfolding and_then
  append_none {k} l e = record { are = reads_append bits q W s k l r ∙ (rw e.are refl) }

  -- a reading that was cut off stays cut off
  longer : (f : ℕ → List Step) (t : ℕ) → StepsGive bits q W s (upto f t) r None → StepsGive bits q W s (upto f (suc t)) r None
  unfolding upto
  longer f t e = append_none (f t) e

  pub stays : (f : ℕ → List Step) (t m : ℕ) → StepsGive bits q W s (upto f t) r None → StepsGive bits q W s (upto f (t + m)) r None
  stays f t zero h = rw add-zero h
  stays f t (suc m) h = rw add-suc (longer f (t + m) (stays f t m h))

-- ---- the turns of a pass

module _ {bits q W : ℕ} {s : List ℕ} (P : Plan) (p : ℕ) where
  -- a part is read where p is in it, and else nothing is read
  pub evens_here : {r : Reading} {o : Option Reading} → p < W → StepsGive bits q W s (even_steps P p) r o → StepsGive bits q W s (even_part W P p) r o
  evens_here h e = rw (lt-ltb p W h) e

  pub evens_over : {r : Reading} → W ≤ p → StepsGive bits q W s (even_part W P p) r (Some r)
  evens_over h = rw (le-ltb p W h) no_steps

  pub odds_here : {r : Reading} {o : Option Reading} → 8 ≤ p → StepsGive bits q W s (odd_steps P (p - 7)) r o → StepsGive bits q W s (odd_part P p) r o
  odds_here h e = rw (le-leb 8 p h) e

  pub odds_not_yet : {r : Reading} → p < 8 → StepsGive bits q W s (odd_part P p) r (Some r)
  odds_not_yet h = rw (lt-leb 8 p h) no_steps

-- ---- turns from position c on

module _ {bits q W : ℕ} {s : List ℕ} (P : Plan) (c h : ℕ) {r₀ r : Reading} (g : StepsGive bits q W s (upto (λ t. turn_steps W P (c / 2 + t)) h) r₀ (Some r))
    (even : c % 2 ≡ 0) where
  abbrev p : ℕ
  p = c + 2 * h

  -- one more
  one_more : {o : Option Reading} → StepsGive bits q W s (even_part W P p ++ odd_part P p) r o → StepsGive bits q W s (chunk_steps W P c (suc h)) r₀ o
  unfolding upto
  one_more e =
      let f : p % 2 ≡ 0 = omega arith in
      let k : p / 2 ≡ c / 2 + h = omega arith in
      append_some g (rw (turn_is W P p f, k) at e)

  pub turn_more : {z y : Reading} → StepsGive bits q W s (even_part W P p) r (Some z) → StepsGive bits q W s (odd_part P p) z (Some y)
      → StepsGive bits q W s (chunk_steps W P c (h + 1)) r₀ (Some y)
  turn_more e f = let n : h + 1 ≡ suc h = omega arith in rw n (one_more (append_some e f))

  -- one that is cut off
  cut_off : (n : ℕ) → h < n → StepsGive bits q W s (even_part W P p ++ odd_part P p) r None → StepsGive bits q W s (chunk_steps W P c n) r₀ None
  cut_off n lt e =
      let k : n ≡ suc h + (n - suc h) = omega arith in
      rw k (stays (λ t. turn_steps W P (c / 2 + t)) (suc h) (n - suc h) (one_more e))

  pub evens_cut_off : (n : ℕ) → h < n → p < W → StepsGive bits q W s (even_steps P p) r None → StepsGive bits q W s (chunk_steps W P c n) r₀ None
  evens_cut_off n lt inside e = cut_off n lt (append_none (odd_part P p) (evens_here P p inside e))

  pub odds_cut_off : (n : ℕ) {z : Reading} → h < n → 8 ≤ p → StepsGive bits q W s (even_part W P p) r (Some z) → StepsGive bits q W s (odd_steps P (p - 7)) z None
      → StepsGive bits q W s (chunk_steps W P c n) r₀ None
  odds_cut_off n lt le e f = cut_off n lt (append_some e (odds_here P p le f))

-- ---- a pass, some turns at a time

append_assoc : (k l m : List Step) → (k ++ l) ++ m ≡ k ++ (l ++ m)
append_assoc [] l m = refl
append_assoc (x ∷ k) l m = ap (λ (z : List Step). x ∷ z) (append_assoc k l m)

append_nil : (k : List Step) → k ++ [] ≡ k
append_nil [] = refl
append_nil (x ∷ k) = ap (λ (z : List Step). x ∷ z) (append_nil k)

upto_more : (f : ℕ → List Step) (a n : ℕ) → upto f a ++ upto (λ t. f (a + t)) n ≡ upto f (a + n)
unfolding upto
upto_more f a zero = rw add-zero (append_nil (upto f a))
upto_more f a (suc n) = rw add-suc (sym (append_assoc (upto f a) (upto (λ t. f (a + t)) n) (f (a + n))) ∙ ap (λ (z : List Step). z ++ f (a + n)) (upto_more f a n))

module _ {bits q W : ℕ} {s : List ℕ} (P : Plan) (c n : ℕ) {r₀ r : Reading} (g : StepsGive bits q W s (upto (turn_steps W P) (c / 2)) r₀ (Some r)) where
  joined : {o : Option Reading} → StepsGive bits q W s (chunk_steps W P c n) r o → StepsGive bits q W s (upto (turn_steps W P) (c / 2 + n)) r₀ o
  joined e = rw (upto_more (turn_steps W P) (c / 2) n) at (append_some g e)

  pub chunk_more : {z : Reading} → StepsGive bits q W s (chunk_steps W P c n) r (Some z) → StepsGive bits q W s (upto (turn_steps W P) ((c + 2 * n) / 2)) r₀ (Some z)
  chunk_more e = let k : (c + 2 * n) / 2 ≡ c / 2 + n = omega arith in rw k (joined e)

  pub chunk_cut_off : W % 2 ≡ 0 → c + 2 * n ≤ W + 8 → StepsGive bits q W s (chunk_steps W P c n) r None → read_pass bits q W s P r₀ ≡ None
  unfolding read_pass pass_steps
  chunk_cut_off w le e =
      let k : W / 2 + 4 ≡ c / 2 + n + (W / 2 + 4 - (c / 2 + n)) = omega arith in
      rw k (stays (turn_steps W P) (c / 2 + n) (W / 2 + 4 - (c / 2 + n)) (joined e)).are

  pub all_read : W % 2 ≡ 0 → c ≡ W + 8 → read_pass bits q W s P r₀ ≡ Some r
  unfolding read_pass pass_steps
  all_read w e = let k : W / 2 + 4 ≡ c / 2 = omega arith in rw k g.are
